-- One carried length q and a variant v. That v leads q to r is `take r P ≡ take q P ++ v`.
use Prim.Native.Nat.{ℕ, ◌+◌, ◌-◌, ◌*◌, ◌%◌, ◌^◌, ◌≤◌, ◌<◌}
use native.Mathlib.Nat.{le_of_lt}
use native.Mathlib.Omega.{arith}
use mathlib.Core.Path.{◌≡◌, sym, ap, ◌∙◌}
use mathlib.Core.Logic.{◌↔◌}
use mathlib.Core.Bool.{Bool, true, false, false≢true}
use mathlib.Core.List.{List, ◌++◌, append_cancel_left}
use lib.ListN.{length, take, drop, length-append, length-drop}
use lib.Seq.{take-add, length-take-le}
use Rattle.text.specs.Refusal.{SoundPattern}
use Rattle.text.specs.Letter.{meant}
use Rattle.text.specs.Compare.{prefix}
use Rattle.text.specs.Occurrence.{Prefix}
use Rattle.text.proofs.Strings.{same-eq, eq-same, prefix-is, is-prefix}
use Rattle.text.proofs.Likes.{meant-length}
use Rattle.text.proofs.Steps.{split-length}
use Rattle.search.specs.BorderStep.{Holds, CarriesOne}
use Rattle.search.proofs.BorderLetters.{rest-meant}
use Rattle.search.proofs.BorderHolds.{lone, holds-none, holds-lone, holds-map}

module _ (P v : List ℕ) (q : ℕ) (near : q < length P) where
  -- r is as far after q as v is long
  led-far : (r : ℕ) → r < length P → take r P ≡ take q P ++ v → q + length v ≡ r
  led-far r l e = omega (arith, split-length P (take q P) v r (le_of_lt l) e, length-take-le q P (le_of_lt near))

  -- v is the bases between
  led-spelt : (r : ℕ) → r < length P → take r P ≡ take q P ++ v → v ≡ take (length v) (drop q P)
  led-spelt r l e =
      append_cancel_left (take q P) v (take (length v) (drop q P))
      (sym e ∙ ap (λ (i : ℕ). take i P) (sym (led-far r l e)) ∙ take-add q (length v) P)

  unled : ((r : ℕ) → r < length P → take r P ≡ take q P ++ v → ⊥) → Holds (length P) (λ r. take r P ≡ take q P ++ v) 0
  unled f = holds-map (λ r l. (absurd, f r l)) holds-none

  -- v has at least the remaining bases: it may end an occurrence
  ended : {ends : Bool} → length P - q ≤ length v → ends ≡ prefix (drop q P) v → CarriesOne P q v 0 ends
  ended long e = record {
    lengths = unled (λ r l s. let z : ⊥ = omega (arith, led-far r l s) in z);
    end = rw e (prefix-is (drop q P) v, is-prefix (drop q P) v);
  }

  -- v has fewer: it may lead on, to q + |v|
  module _ {fits : Bool} (short : length v < length P - q) (e : fits ≡ prefix v (drop q P)) where
    no_end : (false ≡ true) ↔ Prefix (drop q P) v
    no_end = (
      λ e. absurd (false≢true e),
      λ h. absurd (let z : ⊥ = omega (arith, length-drop q P, simp length-append at (ap length h.split)) in z),
    )

    led_on : SoundPattern P → fits ≡ true → CarriesOne P q v (1 * 2 ^ (q + length v) % 2 ^ 64) false
    unfolding prefix
    led_on sized t =
        let end = q + length v in
        let within : end < length P = omega arith in
        rw (lone end (let z : end < 64 = omega (arith, sized.short) in z)) record {
          lengths = holds-map only (holds-lone end within);
          end = no_end;
        }
      where
        led : take (q + length v) P ≡ take q P ++ v
        led =
            take-add q (length v) P
            ∙ ap (λ (w : List ℕ). take q P ++ w) (sym (same-eq v (take (length v) (drop q P)) (sym e ∙ t)))

        only : (r : ℕ) → r < length P → (q + length v ≡ r) ↔ (take r P ≡ take q P ++ v)
        only r l = (λ (f : q + length v ≡ r). rw f at led, led-far r l)

    led-not : fits ≡ false → CarriesOne P q v 0 false
    unfolding prefix
    led-not t = record {
      lengths = unled (λ r l s. false≢true (sym t ∙ e ∙ eq-same v (take (length v) (drop q P)) (led-spelt r l s)));
      end = no_end;
    }

-- the same of a variant with the bytes w, compared by what they mean
module _ (P w : List ℕ) (q : ℕ) (near : q < length P) (sized : SoundPattern P) where
  pub carries-end : {ends : Bool} → length P - q ≤ length w → ends ≡ prefix (meant (take (length P - q) (drop q P))) (meant w)
      → CarriesOne P q (meant w) 0 ends
  carries-end long e =
      ended P (meant w) q near (rw (meant-length w) long) (e ∙ ap (λ (p : List ℕ). prefix p (meant w)) (rest-meant P sized.bases q))

  module _ {fits : Bool} (short : length w < length P - q) (e : fits ≡ prefix (meant w) (meant (take (length P - q) (drop q P)))) where
    fewer : length (meant w) < length P - q
    fewer = rw (meant-length w) short

    begins : fits ≡ prefix (meant w) (drop q P)
    begins = e ∙ ap (prefix (meant w)) (rest-meant P sized.bases q)

    pub carries-on : fits ≡ true → CarriesOne P q (meant w) (1 * 2 ^ (q + length w) % 2 ^ 64) false
    carries-on t = rw (meant-length w) at (led_on P (meant w) q near fewer begins sized t)

    pub carries-not : fits ≡ false → CarriesOne P q (meant w) 0 false
    carries-not t = led-not P (meant w) q near fewer begins t
