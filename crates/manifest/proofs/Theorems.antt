-- What the crate proves of its calls, by name. By their contracts `check` answers `checked_of` of a manifest, `line_at` and `next_stretch`
-- answer `line_of` and `next_of` of a place in it, `vouches` and `counts_stand` answer as their definitions say, and each put puts its line.
use Prim.Native.Nat.{ℕ, zero, suc, ◌<◌}
use native.Mathlib.Omega.{arith}
use mathlib.Core.Path.{◌≡◌, refl, sym, ◌∙◌}
use mathlib.Core.Bool.{Bool, true, false, not, cond, true≢false}
use mathlib.Core.List.{List, [], ◌∷◌}
use Rattle.std.proofs.Common.{Option, Some, None, Result, Ok, Err}
use lib.ListN.{length}
use Rattle.text.specs.Compare.{prefix}
use Rattle.manifest.specs.Line.{line, entry}
use Rattle.manifest.specs.Lines.{Entry, entry_at, entries_from, entries_of, wrong_from, next_of}
use Rattle.manifest.specs.Written.{head_line, manifest_of}
use Rattle.manifest.specs.Check.{sealed, counted, listed_of, checked_of}
use Rattle.manifest.specs.declared.reading.Stretch.{Stretch}
use Rattle.manifest.specs.declared.reading.Wrong.{Wrong}
use Rattle.manifest.specs.declared.reading.Line.{Line}
use Rattle.manifest.specs.declared.checking.Unsound.{Unsound}
use Rattle.manifest.proofs.Finding.{FoundSaid, Found, found, counted-some}
use Rattle.manifest.proofs.ReadBack.{Plain, Sound, Reads}
use Rattle.manifest.proofs.Whole.{reads_whole, begins-whole, sealed-whole}
-- the entry of a stretch under a name can be put; a front put whole and then the last two lines are a manifest; its counts stand in
-- it, and no others do
pub use Rattle.manifest.proofs.ReadBack.{entry-for}
pub use Rattle.manifest.proofs.Whole.{puts_whole, counts_whole}
pub use Rattle.manifest.proofs.Counts.{counts-only}

-- a stretch that `next_stretch` finds is the first entry from there on, and the others are those from the next line on
pub next-some :
    (m : List ℕ) (at : ℕ) {start end next : ℕ} → next_of m at ≡ Some (entry start end next) →
    (entries_from m at ≡ entry_at m start end ∷ entries_from m next) × (wrong_from m at ≡ wrong_from m next)
next-some m at {start} {end} {next} e = let f : Found m at (Some (entry start end next)) = rw e at (found m at) in f

-- where it finds none, and no line from there on is wrong, there is no entry from there on
pub next-none :
    (m : List ℕ) (at : ℕ) → wrong_from m at ≡ false → ((start end next : ℕ) → next_of m at ≡ Some (entry start end next) → ⊥) →
    entries_from m at ≡ []
next-none m at right none = go (next_of m at) refl (found m at)
  where
    by_said :
        (said : Result (Option Stretch) Wrong) (next : ℕ) → next_of m at ≡ Some (line said next) → FoundSaid m at next said →
        entries_from m at ≡ []
    by_said (Ok (Some s)) next e f = absurd (none s.start s.end next e)
    by_said (Ok None) next e f = absurd f
    by_said (Err w) next e f = absurd (true≢false (sym f ∙ right))

    go : (l : Option Line) → next_of m at ≡ l → Found m at l → entries_from m at ≡ []
    go (Some l) e f = by_said l.said l.next e f
    go None e f = f.0

-- what is known of a manifest that `check` finds sound, with n stretches
pub record Whole (m : List ℕ) (n : ℕ) : Type 0 where
  pub begins : prefix head_line m ≡ true
  pub seal : sealed m ≡ true
  pub right : wrong_from m 0 ≡ false
  pub count : length (entries_of m) ≡ n
  pub some : 0 < n

counted_is : (k n : ℕ) → counted k ≡ Ok n → (k ≡ n) × (0 < n)
counted_is zero n e = let z : ◌≡◌ {A = ℕ} 0 1 = cc in absurd (let y : ⊥ = omega arith in y)
counted_is (suc k) n e = let same : suc k ≡ n = cc in (same, omega arith)

pub checked-sound : (m : List ℕ) (n : ℕ) → checked_of m ≡ Ok n → Whole m n
unfolding checked_of listed_of
checked-sound m n e = go (prefix head_line m) (sealed m) (wrong_from m 0) refl refl refl e
  where
    go :
        (a b c : Bool) → prefix head_line m ≡ a → sealed m ≡ b → wrong_from m 0 ≡ c →
        cond (not a) (Err Unsound.Foreign) (cond (not b) (Err Unsound.Altered) (cond c (Err Unsound.Wrong) (counted (length (entries_of m)))))
        ≡ Ok n → Whole m n
    go true true false p q r h =
        let k = counted_is (length (entries_of m)) n h in
        record { begins = p; seal = q; right = r; count = k.0; some = k.1 }
    go true true true p q r h = let z : ◌≡◌ {A = ℕ} 0 1 = cc in absurd (let y : ⊥ = omega arith in y)
    go true false c p q r h = let z : ◌≡◌ {A = ℕ} 0 1 = cc in absurd (let y : ⊥ = omega arith in y)
    go false b c p q r h = let z : ◌≡◌ {A = ℕ} 0 1 = cc in absurd (let y : ⊥ = omega arith in y)

-- a manifest that is put, with any comments without a line feed and any entries of stretches under names, is sound with their number, and
-- they are read back, each digest and each name, in order
pub reads-back :
    (cs : List (List ℕ)) (es : List Entry) (n s b : ℕ) → Plain cs → Sound es → 0 < length es →
    (checked_of (manifest_of cs es n s b) ≡ Ok (length es)) × (entries_of (manifest_of cs es n s b) ≡ es)
unfolding checked_of listed_of
reads-back cs es n s b p q some =
    let r : Reads (manifest_of cs es n s b) 0 es = reads_whole cs es n s b p q in (
      rw (begins-whole cs es n s b, sealed-whole cs es n s b, r.right, r.entries) (sym (counted-some (length es) (λ e. omega arith))),
      r.entries,
    )

-- without a stretch it is empty
pub reads-empty :
    (cs : List (List ℕ)) (n s b : ℕ) → Plain cs → checked_of (manifest_of cs [] n s b) ≡ Err Unsound.Empty
unfolding checked_of listed_of
reads-empty cs n s b p =
    let r : Reads (manifest_of cs [] n s b) 0 [] = reads_whole cs [] n s b p tt in
    rw (begins-whole cs [] n s b, sealed-whole cs [] n s b, r.right, r.entries) refl
