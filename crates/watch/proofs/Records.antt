-- When a record's pattern is accepted.
use Prim.Native.Nat.{ℕ, ◌≤◌, ◌<◌}
use mathlib.Core.Path.{◌≡◌, refl, sym}
use mathlib.Core.Bool.{true, false, false≢true}
use mathlib.Core.List.{List}
use native.Mathlib.Omega.{arith}
use borrow.Author.Tests.{le-leb, lt-leb, leb-true}
use lib.Dec.{leb}
use lib.ListN.{length, take}
use lib.Seq.{length-take-le}
use Rattle.std.proofs.Common.{Result, Ok, Err}
use Rattle.std.specs.Result.{is_ok as std_ok}
use Rattle.text.specs.Refusal.{Outcome, ok, refused, pattern, outcome, SoundPattern}
use Rattle.text.specs.declared.refusal.Refusal.{Refusal}
use Rattle.text.proofs.Truth.{and_left, and_right}
use Rattle.text.proofs.Patterns.{pattern-sound}
use Rattle.watch.specs.Watching.{bases_of, is_ok, sound}
use Rattle.watch.specs.declared.watched.Watched.{Watched}

pub bases-length : (m : ℕ) (p : List ℕ) → m ≤ 64 → length p ≡ 64 → m ≡ length (take m p)
bases-length m p l e =
    let within : m ≤ length p = omega (arith, l, e) in
    sym (length-take-le m p within)

pub wrong-long : (w : Watched) → 64 < w.m → false ≡ sound w
unfolding sound
wrong-long w l = rw (lt-leb w.m 64 l) refl

pub sound-checked : (w : Watched) → w.m ≤ 64 → (r : Result (Unit {0}) Refusal) → outcome r ≡ pattern (take w.m w.pattern) (ok (tt {0}))
    → std_ok r ≡ sound w
unfolding sound bases_of
sound-checked w l (Ok u) e = rw (le-leb w.m 64 l, ← e) refl
sound-checked w l (Err f) e = rw (le-leb w.m 64 l, ← e) refl

accepts : (o : Outcome (Unit {0})) → is_ok o ≡ true → o ≡ ok tt
accepts (ok tt) e = refl
accepts (refused n p) e = absurd (false≢true e)

pub sound-short : (w : Watched) → sound w ≡ true → w.m ≤ 64
unfolding sound
sound-short w e = leb-true w.m 64 (and_left (leb w.m 64) (is_ok (pattern (bases_of w) (ok (tt {0})))) e)

pub sound-spells : (w : Watched) → sound w ≡ true → SoundPattern (bases_of w)
unfolding sound
sound-spells w e = pattern-sound (bases_of w) (accepts _ (and_right (leb w.m 64) (is_ok (pattern (bases_of w) (ok (tt {0})))) e))
