-- Laws of numbers whose bits are a set of lengths.
use Prim.Native.Nat.{ℕ, ◌*◌, ◌%◌, ◌^◌, ◌<◌}
use native.Mathlib.Nat.{one-mul, mod-eq_of_lt}
use mathlib.Core.Path.{◌≡◌}
use mathlib.Core.Logic.Iff
use mathlib.Core.Logic.{◌↔◌, ◌⊎◌}
use mathlib.Core.Bool.{Bool, true, false, ◌||◌, false≢true}
use lib.Bits.{bit_or, or_lt}
use lib.Pow.{pow_pos, pow-lt}
use Rattle.text.proofs.Tests.{or-test}
use Rattle.text.proofs.Bits.{bit-zero, bit-or, lone-bit}
use Rattle.search.specs.BorderStep.{Holds, Tells}

-- the number that code writes as `1 << k`
pub lone : (k : ℕ) → k < 64 → 1 * 2 ^ k % 2 ^ 64 ≡ 2 ^ k
lone k l = rw (one-mul, mod-eq_of_lt (pow-lt l))

never : (false ≡ true) ↔ ⊥
never = (λ e. absurd (false≢true e), absurd)

pub holds-none : {m : ℕ} → Holds m (λ r. ⊥) 0
holds-none {m} = record { small = pow_pos m; is = λ r l. rw bit-zero never }

pub holds-lone : {m : ℕ} (k : ℕ) → k < m → Holds m (λ r. k ≡ r) (2 ^ k)
holds-lone k l = record { small = pow-lt l; is = λ r h. lone-bit k r }

pub holds-or : {m a b : ℕ} {A B : ℕ → Type 0} → Holds m A a → Holds m B b → Holds m (λ r. A r ⊎ B r) (bit_or a b)
holds-or {m} {a} {b} x y =
    record { small = or_lt m a b x.small y.small; is = λ r l. rw bit-or (or-test (x.is r l) (y.is r l)) }

-- the same set, said in other words
pub holds-map : {m n : ℕ} {A B : ℕ → Type 0} → ((r : ℕ) → r < m → A r ↔ B r) → Holds m A n → Holds m B n
holds-map f x = record { small = x.small; is = λ r l. Iff.trans (x.is r l) (f r l) }

pub tells_none : {m : ℕ} → Tells m (λ r. ⊥) ⊥ 0 false
tells_none = record { lengths = holds-none; end = never }

pub tells-or :
    {m a b : ℕ} {A B : ℕ → Type 0} {E F : Type 0} {x y : Bool} → Tells m A E a x → Tells m B F b y →
    Tells m (λ r. A r ⊎ B r) (E ⊎ F) (bit_or a b) (x || y)
tells-or s t = record { lengths = holds-or s.lengths t.lengths; end = or-test s.end t.end }

pub tells-map :
    {m n : ℕ} {A B : ℕ → Type 0} {E F : Type 0} {x : Bool} → ((r : ℕ) → r < m → A r ↔ B r) → E ↔ F → Tells m A E n x → Tells m B F n x
tells-map f g s = record { lengths = holds-map f s.lengths; end = Iff.trans s.end g }
