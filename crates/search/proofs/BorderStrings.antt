-- Laws of the strings that end a string.
use Prim.Native.Nat.{ℕ, ◌+◌, ◌≤◌}
use native.Mathlib.Omega.{arith}
use mathlib.Core.Path.{◌≡◌, refl, sym, ap, ◌∙◌}
use mathlib.Core.List.{List, [], ◌++◌, append_assoc, append-nil}
use lib.ListN.{length, take, drop, length-append}
use lib.Seq.{drop-append-le, drop-append_seam}
use Rattle.text.specs.Occurrence.{Suffix, Inside}

pub suffix-self : (s : List ℕ) → Suffix s s
suffix-self s = record { start = []; split = refl }

-- no bases end every string
pub suffix-none : (P s : List ℕ) → Suffix (take 0 P) s
suffix-none P s = record { start = s; split = sym (append-nil s) }

pub suffix_trans : {a b s : List ℕ} → Suffix a b → Suffix b s → Suffix a s
suffix_trans {a} x y = record {
  start = y.start ++ x.start;
  split = y.split ∙ ap (λ (l : List ℕ). y.start ++ l) x.split ∙ sym (append_assoc y.start x.start a);
}

split-length : {a s : List ℕ} (x : Suffix a s) → length s ≡ length x.start + length a
split-length {a} x = ap length x.split ∙ length-append x.start a

pub suffix-length : {a s : List ℕ} → Suffix a s → length a ≤ length s
suffix-length x = omega (arith, split-length x)

-- of two suffixes of a string the shorter one is a suffix of the longer one
pub suffix-of-longer : {a b s : List ℕ} → Suffix a s → Suffix b s → length a ≤ length b → Suffix a b
suffix-of-longer {a} {b} x y l =
    let n = length y.start in
    let within : n ≤ length x.start = omega (arith, split-length x, split-length y) in
    record {
      start = drop n x.start;
      split = sym (drop-append_seam y.start b) ∙ ap (drop n) (sym y.split ∙ x.split) ∙ drop-append-le n x.start a within;
    }

pub suffix-inside : {p s : List ℕ} → Suffix p s → Inside p s
suffix-inside {p} x =
    record { start = x.start; rest = []; split = x.split ∙ ap (λ (l : List ℕ). x.start ++ l) (sym (append-nil p)) }
