-- The marks of a text by the relation, from any state: mark j is 1 exactly when an occurrence ends in segment j, begun in the
-- text where the state allows it, or finishing a length carried in.
use Prim.Native.Nat.{ℕ, zero, suc, ◌<◌, ◌≤◌}
use native.Mathlib.Omega.{arith}
use native.Mathlib.Decide.{dec_lt}
use mathlib.Core.Path.{◌≡◌, refl, sym, ap, ◌∙◌}
use mathlib.Core.Logic.{inl, inr, by_cases}
use mathlib.Core.Bool.{Bool, true, false, cond}
use mathlib.Core.List.Memᴰ
use mathlib.Core.List.{List, [], ◌∷◌, ◌++◌}
use lib.ListN.{length, take, drop, get_or, length-append, length-drop, take-append-drop, get_or-eq_default}
use lib.Seq.{length-take-le, take-take, get_or-take, take-append_seam, drop-append_seam}
use Rattle.text.specs.Text.{Variant, Text, segment}
use Rattle.text.specs.Occurrence.{Prefix, Some, Reaches, Across, EndsIn, Finishes}
use Rattle.text.specs.Bits.{bit}
use Rattle.text.specs.State.{next, ends, run, marks_from}
use Rattle.text.proofs.Steps.{split-length, From, afresh, carrying, EndsBy, ends_is, is-ends}
use Rattle.text.proofs.Runs.{Leaves, run-open, run_is, is-run}

pub run-append : (P : List ℕ) (st : ℕ) (T U : Text) → run P st (T ++ U) ≡ run P (run P st T) U
unfolding run
run-append P st [] U = refl
run-append P st (g ∷ T) U = run-append P (next P st g) T U

pub marks-append : (P : List ℕ) (st : ℕ) (T U : Text) → marks_from P st (T ++ U) ≡ marks_from P st T ++ marks_from P (run P st T) U
unfolding run marks_from
marks-append P st [] U = refl
marks-append P st (g ∷ T) U = ap (λ (l : List ℕ). cond (ends P st g) 1 0 ∷ l) (marks-append P (next P st g) T U)

pub marks-length : (P : List ℕ) (st : ℕ) (T : Text) → length (marks_from P st T) ≡ length T
unfolding marks_from
marks-length P st [] = refl
marks-length P st (g ∷ T) = ap suc (marks-length P (next P st g) T)

-- mark j looks at segment j with the state after those before it
pub mark-at : (P : List ℕ) (st : ℕ) (T : Text) (j : ℕ) → j < length T →
    get_or (marks_from P st T) j 0 ≡ cond (ends P (run P st (take j T)) (segment T j)) 1 0
unfolding run marks_from
mark-at P st [] j l = absurd (let z : ⊥ = omega arith in z)
mark-at P st (g ∷ T) zero l = refl
mark-at P st (g ∷ T) (suc j) l = mark-at P (next P st g) T j (let z : j < length T = omega arith in z)

marked : (b : Bool) → ◌≡◌ {A = ℕ} (cond b 1 0) 1 → b ≡ true
marked true e = refl
marked false e = absurd (let z : ⊥ = omega arith in z)

pub mark-ends : (P : List ℕ) (st : ℕ) (T : Text) (j : ℕ) → get_or (marks_from P st T) j 0 ≡ 1 →
    (j < length T) × (ends P (run P st (take j T)) (segment T j) ≡ true)
mark-ends P st T j e =
    by_cases (dec_lt j (length T))
    (λ (l : j < length T). (l, marked (ends P (run P st (take j T)) (segment T j)) (sym (mark-at P st T j l) ∙ e)))
    (λ (l : ¬ (j < length T)).
    let far : length (marks_from P st T) ≤ j = omega (arith, marks-length P st T) in
    absurd (let z : ⊥ = omega (arith, sym (get_or-eq_default (marks_from P st T) 0 far) ∙ e) in z))

-- what is listed somewhere is in the text
pub listed-within : (T : Text) (j : ℕ) (A : Variant → Type 0) → Some (segment T j) A → j < length T
listed-within T j A h =
    by_cases (dec_lt j (length T))
    (λ (l : j < length T). l)
    (λ (l : ¬ (j < length T)).
    let far : length T ≤ j = omega arith in
    absurd (Memᴰ.not-nil (rw (get_or-eq_default T [] far) at h.listed)))

-- what reaches j depends on the segments before j alone
module _ (w : List ℕ) (T : Text) (i j : ℕ) (l : i < j) where
  pub reach-more : Reaches w (take j T) i j → Reaches w T i j
  reach-more h =
      record {
        start = h.start;
        rest = h.rest;
        split = h.split;
        some = h.some;
        begun = rw (get_or-take j T i [] l) at h.begun;
        passed = rw (take-take j j T (let z : j ≤ j = omega arith in z)) at h.passed;
      }

  pub reach-less : Reaches w T i j → Reaches w (take j T) i j
  reach-less h =
      record {
        start = h.start;
        rest = h.rest;
        split = h.split;
        some = h.some;
        begun = rw (get_or-take j T i [] l) h.begun;
        passed = rw (take-take j j T (let z : j ≤ j = omega arith in z)) h.passed;
      }

-- an occurrence ends in segment j of the text T that is entered in the state st
abbrev pub Marked : List ℕ → ℕ → Text → ℕ → Type 0
Marked P st T j = From P st (EndsIn P T j) (λ q. Finishes P q T j)

-- the state before segment j
abbrev before : List ℕ → ℕ → Text → ℕ → ℕ
before P st T j = run P st (take j T)

module _ (P : List ℕ) (st : ℕ) (T : Text) (j : ℕ) (some : 0 < length P) where
  -- a length q that comes to segment j and whose last bases begin a variant there
  completed : j < length T → (q : ℕ) → q < length P → Some (segment T j) (Prefix (drop q P)) → Leaves P st (take j T) q → Marked P st T j
  completed l q short here (carrying p c h) = carrying p c (record { at = q; short = short; before = h; ended = here })
  completed l q short here (afresh e b) =
      let all : length (take j T) ≡ j = length-take-le j T (let z : j ≤ length T = omega arith in z) in
      let early : b.at < j = omega (arith, b.within) in
      afresh e
      (inr (
        b.at,
        early,
        record {
          front = take q P;
          last = drop q P;
          split = sym (take-append-drop q P);
          some = omega (arith, length-drop q P);
          before = reach-more (take q P) T b.at j early (rw all at b.reaches);
          ended = here;
        },
      ))

  -- mark j is 1 exactly when an occurrence ends in segment j
  pub mark-is : get_or (marks_from P st T) j 0 ≡ 1 → Marked P st T j
  mark-is e = go h.is
    where
      m : (j < length T) × (ends P (before P st T j) (segment T j) ≡ true)
      m = mark-ends P st T j e

      h : Some (segment T j) (EndsBy P (before P st T j))
      h = ends_is P (before P st T j) (segment T j) m.1

      go : EndsBy P (before P st T j) h.variant → Marked P st T j
      go (afresh a k) = afresh (sym (run-open P st (take j T) some) ∙ a) (inl (record { variant = h.variant; listed = h.listed; is = k }))
      go (carrying q c k) =
          completed m.0 q c.short (record { variant = h.variant; listed = h.listed; is = k })
          (run_is P st (take j T) q c.some c.short c.carried)

  ended : {A : Variant → Type 0} → Some (segment T j) A → ((s : Variant) → A s → EndsBy P (before P st T j) s)
      → get_or (marks_from P st T) j 0 ≡ 1
  ended {A} here f =
      mark-at P st T j (listed-within T j A here)
      ∙ ap (λ (b : Bool). cond b 1 0)
      (is-ends P (before P st T j) (segment T j)
      (record { variant = here.variant; listed = here.listed; is = f here.variant here.is }))

  finish : (q : ℕ) → 0 < q → q < length P → Leaves P st (take j T) q → Some (segment T j) (Prefix (drop q P))
      → get_or (marks_from P st T) j 0 ≡ 1
  finish q pos short h here =
      ended here (λ s k. carrying q (record { some = pos; short = short; carried = is-run P st (take j T) q pos short h }) k)

  crossed : bit st 0 ≡ true → (i : ℕ) → i < j → Across P T i j → get_or (marks_from P st T) j 0 ≡ 1
  crossed e i early a =
      finish q
      (omega (arith, ap length a.before.split ∙ length-append a.before.start a.before.rest, a.before.some))
      (omega (arith, ap length a.split ∙ length-append a.front a.last, a.some))
      (afresh e (record { at = i; within = omega (arith, all); reaches = rw (all, front) (reach-less a.front T i j early a.before) }))
      (rw last a.ended)
    where
      q : ℕ
      q = length a.front

      front : take q P ≡ a.front
      front = ap (take q) a.split ∙ take-append_seam a.front a.last

      last : drop q P ≡ a.last
      last = ap (drop q) a.split ∙ drop-append_seam a.front a.last

      all : length (take j T) ≡ j
      all = length-take-le j T (let z : j ≤ length T = omega (arith, listed-within T j (Prefix a.last) a.ended) in z)

  pub is-mark : Marked P st T j → get_or (marks_from P st T) j 0 ≡ 1
  is-mark (afresh e (inl h)) = ended h (λ s k. afresh (run-open P st (take j T) some ∙ e) k)
  is-mark (afresh e (inr x)) = crossed e x.0 x.1 x.2
  is-mark (carrying q c f) =
      finish f.at
      (omega (
        arith,
        split-length P (take q P) f.before.passed f.at (let z : f.at ≤ length P = omega (arith, f.short) in z) f.before.split,
        length-take-le q P (let z : q ≤ length P = omega (arith, c.short) in z),
        c.some,
      ))
      f.short
      (carrying q c f.before)
      f.ended
