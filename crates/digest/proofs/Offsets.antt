-- F reads the offset t modulo 2 ^ 128.
use Rattle.std.proofs.Common.{◌≡◌, ℕ, ◌/◌, ◌%◌, ◌^◌, ◌<◌, Bool, List, [], ◌∷◌, sym, ap, ◌∙◌, ap₂}
use native.Mathlib.Nat.{mod-mod}
use lib.Pow.{mod-mod-pow, shr_mod, field}
use lib.Bits.{bit_xor}
use Rattle.digest.specs.Words.{at}
use Rattle.digest.specs.Compression.{IV, flagged, work_vector, rounds, halves_xored, F}

-- the work vector with the two words of the offset and v[14]
abbrev vector : List ℕ → ℕ → ℕ → ℕ → List ℕ
vector h v a b =
    at h 0 ∷ at h 1 ∷ at h 2 ∷ at h 3 ∷ at h 4 ∷ at h 5 ∷ at h 6 ∷ at h 7
    ∷ at IV 0 ∷ at IV 1 ∷ at IV 2 ∷ at IV 3 ∷ bit_xor a (at IV 4) ∷ bit_xor b (at IV 5) ∷ v ∷ at IV 7 ∷ []

-- the high word of an offset below 2 ^ 128 is not cut
pub vector-of : (h : List ℕ) (t v : ℕ) (f : Bool) → t < 2 ^ 128 → v ≡ flagged f → vector h v (t % 2 ^ 64) (t / 2 ^ 64) ≡ work_vector h t f
unfolding work_vector
vector-of h t v f l e = ap₂ (λ (x b : ℕ). vector h x (t % 2 ^ 64) b) e (sym (shr_mod 64 64 l))

vector-wraps : (h : List ℕ) (t : ℕ) (f : Bool) → work_vector h (t % 2 ^ 128) f ≡ work_vector h t f
unfolding work_vector
vector-wraps h t f =
    ap₂ (vector h (flagged f)) (mod-mod-pow t 64 64) (ap (λ (x : ℕ). x % 2 ^ 64) (field t 64 64) ∙ mod-mod (t / 2 ^ 64) (2 ^ 64))

pub F-wraps : (h m : List ℕ) (t : ℕ) (f : Bool) → F h m (t % 2 ^ 128) f ≡ F h m t f
unfolding F
F-wraps h m t f = ap (λ (v : List ℕ). halves_xored h (rounds 12 m v)) (vector-wraps h t f)

-- so F with an offset that wraps is F with one that does not
pub F-offset : (h : List ℕ) {r m k : List ℕ} {t : ℕ} (n : ℕ) (f : Bool) → r ≡ F h m t f → m ≡ k → t ≡ n % 2 ^ 128 → r ≡ F h k n f
F-offset h {k = k} n f e w p = e ∙ ap₂ (λ (x : List ℕ) (u : ℕ). F h x u f) w p ∙ F-wraps h k n f
