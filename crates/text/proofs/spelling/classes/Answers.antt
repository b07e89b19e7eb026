-- `text::spelling::classes` meets its contract: one computed test over the whole table, and its rule at each byte.
use Prim.Native.Nat.{ℕ, ◌<◌}
use borrow.Author.Tests.{eqb-true}
use mathlib.Core.Path.{◌≡◌, refl, sym, ap, ◌∙◌}
use mathlib.Core.Bool.{Bool, true, false, not, cond, true≢false}
use mathlib.Core.List.{List}
use lib.Dec.{eqb}
use lib.ListN.{get_or, set, replicate}
use Rattle.text.specs.Letter.{base, raised, capital, letter}
use Rattle.text.specs.Bits.{any_below}
use Rattle.text.proofs.Truth.{some-any_below}
use Rattle.text.proofs.spelling.classes.Goals as goal

-- with 0 for five letters more
abbrev cleared : List ℕ → ℕ → ℕ → ℕ → ℕ → ℕ → List ℕ
cleared l a c g t n = set (set (set (set (set l a 0) c 0) g 0) t 0) n 0

table : List ℕ
table = cleared (cleared (replicate 256 1) 0x41 0x43 0x47 0x54 0x4E) 0x61 0x63 0x67 0x74 0x6E

right : ℕ → Bool
right c = eqb (get_or table c 0) (cond (letter c) 0 1)

none-wrong : any_below (λ c. not (right c)) 256 ≡ false
unfolding any_below right table letter capital raised base
none-wrong = refl

each : (c : ℕ) → c < 256 → get_or table c 0 ≡ cond (letter c) 0 1
unfolding right
each c l = eqb-true (get_or table c 0) (cond (letter c) 0 1) (go (right c) refl)
  where
    go : (b : Bool) → right c ≡ b → b ≡ true
    go true e = refl
    go false e = absurd (true≢false (sym (some-any_below (λ c. not (right c)) 256 c l (ap not e)) ∙ none-wrong))

pub returns : goal.returns
unfolding table
returns c = record { full = refl; each = each }
