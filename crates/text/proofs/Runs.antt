-- What a state after a text says, from any state before it: a length was begun in one of the segments, or a carried length
-- has passed them all. Both ways, for every pattern, text and state.
use Prim.Native.Nat.{ℕ, zero, suc, ◌+◌, ◌^◌, ◌<◌, ◌≤◌}
use native.Mathlib.Omega.{arith}
use mathlib.Core.Path.{◌≡◌, refl, sym, ap, ◌∙◌}
use mathlib.Core.Bool.{true}
use mathlib.Core.List.{List, [], ◌∷◌, ◌++◌, append_assoc, append-nil}
use lib.ListN.{length, take, length-append}
use lib.Seq.{take-length, length-take-le}
use Rattle.text.specs.Text.{Variant, Segment, Text}
use Rattle.text.specs.Occurrence.{Some, Spells, Reaches, Passes}
use Rattle.text.specs.Bits.{bit}
use Rattle.text.specs.State.{next, run}
use Rattle.text.proofs.Steps.{split-length, split-front, From, afresh, carrying, CarriedBy, next-open, next-lt, next-is, is-next}

-- length r is begun in a segment of the text
pub record Begun (P : List ℕ) (T : Text) (r : ℕ) : Type 0 where
  pub at : ℕ
  pub within : at < length T
  pub reaches : Reaches (take r P) T at (length T)

-- length r leaves the text T that is entered in the state st
abbrev pub Leaves : List ℕ → ℕ → Text → ℕ → Type 0
Leaves P st T r = From P st (Begun P T r) (λ q. Passes P q T r)

-- bit 0 of the state after a text is bit 0 of the state before it
pub run-open : (P : List ℕ) (st : ℕ) (T : Text) → 0 < length P → bit (run P st T) 0 ≡ bit st 0
unfolding run
run-open P st [] l = refl
run-open P st (g ∷ T) l = run-open P (next P st g) T l ∙ next-open P st g l

pub run-lt : (P : List ℕ) (st : ℕ) (T : Text) → st < 2 ^ length P → run P st T < 2 ^ length P
unfolding run
run-lt P st [] l = l
run-lt P st (g ∷ T) l = run-lt P (next P st g) T (next-lt P st g)

module _ (P : List ℕ) (st : ℕ) (g : Segment) (T : Text) (r : ℕ) (some : 0 < r) (short : r < length P) where
  -- what leaves T after g was begun in g or in T, or has passed both
  leaves-both : Leaves P (next P st g) T r → Leaves P st (g ∷ T) r
  leaves-both (afresh e b) =
      let l : 0 < length P = omega arith in
      afresh (sym (next-open P st g l) ∙ e)
      (record {
        at = suc b.at;
        within = omega (arith, b.within);
        reaches =
            record {
              start = b.reaches.start;
              rest = b.reaches.rest;
              split = b.reaches.split;
              some = b.reaches.some;
              begun = b.reaches.begun;
              passed = b.reaches.passed;
            };
      })
  leaves-both (carrying q c h) = go out.is
    where
      out : Some g (CarriedBy P st q)
      out = next-is P st g q c.some c.short c.carried

      s : Variant
      s = out.variant

      go : CarriedBy P st q s → Leaves P st (g ∷ T) r
      go (afresh e b) =
          let long : length (take q P) ≡ q = length-take-le q P (let z : q ≤ length P = omega (arith, c.short) in z) in
          afresh e
          (record {
            at = 0;
            within = omega arith;
            reaches =
                record {
                  start = take q P;
                  rest = h.passed;
                  split = h.split;
                  some = omega (arith, c.some);
                  begun = record { variant = s; listed = out.listed; is = b };
                  passed = rw (take-length T) h.spelt;
                };
          })
      go (carrying p k e) =
          carrying p k
          (record {
            passed = s ++ h.passed;
            spelt = record { variant = s; listed = out.listed; is = (h.passed, h.spelt, refl) };
            split = h.split ∙ ap (λ (w : List ℕ). w ++ h.passed) e ∙ append_assoc (take p P) s h.passed;
          })

  -- a string that begins the first r bases, and leaves g as a length of its own
  onto : (w u : List ℕ) → take r P ≡ w ++ u → 0 < length w → Some g (CarriedBy P st (length w)) → Spells T u → Leaves P (next P st g) T r
  onto w u e long h spelt =
      let all : r ≤ length P = omega arith in
      let sum : r ≡ length w + length u = split-length P w u r all e in
      let fits : length w < length P = omega arith in
      carrying (length w)
      (record { some = long; short = fits; carried = is-next P st g (length w) long fits h })
      (record { passed = u; spelt = spelt; split = e ∙ ap (λ (x : List ℕ). x ++ u) (sym (split-front P w u r all e)) })

  -- a length begun in g itself, or in a later segment
  begun-behind : bit st 0 ≡ true → (i : ℕ) → i < suc (length T) → Reaches (take r P) (g ∷ T) i (suc (length T)) → Leaves P (next P st g) T r
  begun-behind e zero within h =
      let all : r ≤ length P = omega arith in
      onto h.start h.rest h.split h.some
      (record {
        variant = h.begun.variant;
        listed = h.begun.listed;
        is = afresh e (rw (split-front P h.start h.rest r all h.split) h.begun.is);
      })
      (rw (take-length T) at h.passed)
  begun-behind e (suc i) within h =
      let l : 0 < length P = omega arith in
      afresh (next-open P st g l ∙ e)
      (record {
        at = i;
        within = omega arith;
        reaches = record { start = h.start; rest = h.rest; split = h.split; some = h.some; begun = h.begun; passed = h.passed };
      })

  leaves-behind : Leaves P st (g ∷ T) r → Leaves P (next P st g) T r
  leaves-behind (afresh e b) = begun-behind e b.at b.within b.reaches
  leaves-behind (carrying q c h) =
      let all : r ≤ length P = omega arith in
      let s = h.spelt.variant in
      let u = h.spelt.is.0 in
      let whole : take r P ≡ (take q P ++ s) ++ u =
      h.split ∙ ap (λ (w : List ℕ). take q P ++ w) h.spelt.is.2 ∙ sym (append_assoc (take q P) s u) in
      let long : length (take q P) ≡ q = length-take-le q P (let z : q ≤ length P = omega (arith, c.short) in z) in
      onto (take q P ++ s) u whole
      (omega (arith, length-append (take q P) s, c.some))
      (record { variant = s; listed = h.spelt.listed; is = carrying q c (split-front P (take q P ++ s) u r all whole) })
      h.spelt.is.1

-- bit r of the state after T is set exactly when length r leaves T
pub run_is : (P : List ℕ) (st : ℕ) (T : Text) (r : ℕ) → 0 < r → r < length P → bit (run P st T) r ≡ true → Leaves P st T r
unfolding run
run_is P st [] r some short e =
    carrying r (record { some = some; short = short; carried = e })
    (record { passed = []; spelt = refl; split = sym (append-nil (take r P)) })
run_is P st (g ∷ T) r some short e = leaves-both P st g T r some short (run_is P (next P st g) T r some short e)

pub is-run : (P : List ℕ) (st : ℕ) (T : Text) (r : ℕ) → 0 < r → r < length P → Leaves P st T r → bit (run P st T) r ≡ true
unfolding run
is-run P st [] r some short (afresh e b) = absurd (let z : ⊥ = omega (arith, b.within) in z)
is-run P st [] r some short (carrying q c h) =
    let all : r ≤ length P = omega arith in
    let sum = split-length P (take q P) h.passed r all h.split in
    let long = length-take-le q P (let z : q ≤ length P = omega (arith, c.short) in z) in
    let none : length h.passed ≡ 0 = ap length h.spelt in
    let e : r ≡ q = omega arith in
    rw e c.carried
is-run P st (g ∷ T) r some short h = is-run P (next P st g) T r some short (leaves-behind P st g T r some short h)
