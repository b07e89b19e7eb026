-- States, the step over one segment, and the marks of a text. Bit 0 of a state stands for a fresh start, bit r for r carried.
use Rattle.std.specs.Prelude.{ℕ, zero, suc, ◌+◌, ◌^◌, Bool, ◌||◌, ◌&&◌, cond, List, [], ◌∷◌, eqb, ltb, length, take, drop}
use Rattle.text.specs.Text.{Variant, Segment, Text}
use Rattle.text.specs.Compare.{same, prefix, suffix, inside}
use Rattle.text.specs.Bits.{bit, from_bits, any_below, any_of}

-- a state for m bases: bit 0 is set, and no bit from m up
unfoldable pub is_state : ℕ → ℕ → Bool
is_state m st = bit st 0 && ltb st (2 ^ m)

-- nothing carried: an occurrence may start afresh
abbrev pub fresh : ℕ
fresh = 1

-- what a state brings about: a by a fresh start, or b q by a carried q of 1 or more
unfoldable pub brings : List ℕ → ℕ → Bool → (ℕ → Bool) → Bool
brings P st a b = bit st 0 && a || any_below (λ q. ltb 0 q && bit st q && b q) (length P)

-- variant s sends a carried q to r: s is the next |s| bases of P
unfoldable pub sends : List ℕ → ℕ → Variant → ℕ → Bool
sends P q s r = eqb (q + length s) r && same s (take (length s) (drop q P))

-- length r is carried out by variant s: it is begun in s, or s sends a carried q there
unfoldable pub carries : List ℕ → ℕ → ℕ → Variant → Bool
carries P st r s = brings P st (suffix (take r P) s) (λ q. sends P q s r)

-- bit r of the state after segment g
unfoldable pub next_bit : List ℕ → ℕ → Segment → ℕ → Bool
next_bit P st g zero = bit st 0
next_bit P st g (suc r) = any_of (carries P st (suc r)) g

-- the state after segment g
unfoldable pub next : List ℕ → ℕ → Segment → ℕ
next P st g = from_bits (next_bit P st g) (length P)

-- an occurrence ends in variant s: it lies in s, or the bases after a carried q begin s
unfoldable pub ends_at : List ℕ → ℕ → Variant → Bool
ends_at P st s = brings P st (inside P s) (λ q. prefix (drop q P) s)

-- an occurrence ends in segment g
unfoldable pub ends : List ℕ → ℕ → Segment → Bool
ends P st g = any_of (ends_at P st) g

-- the state after a text, from the state st
unfoldable pub run : List ℕ → ℕ → Text → ℕ
run P st [] = st
run P st (g ∷ T) = run P (next P st g) T

-- the marks of a text from the state st: 1 for each segment in which an occurrence ends, else 0
unfoldable pub marks_from : List ℕ → ℕ → Text → List ℕ
marks_from P st [] = []
marks_from P st (g ∷ T) = cond (ends P st g) 1 0 ∷ marks_from P (next P st g) T

-- the marks of a text
unfoldable pub marks : List ℕ → Text → List ℕ
marks P T = marks_from P fresh T
