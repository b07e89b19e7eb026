-- A walk over segments that marks them, whatever says how: f gives the marks of a text, h what is told of it. The marks and the number
-- of ones are those of the segments read; and what a search answers, and leaves in the caller's buffer.
use Prim.Native.Nat.{ℕ, ◌+◌, ◌-◌, ◌/◌, ◌^◌, ◌≤◌, ◌<◌, min}
use native.Mathlib.Numerals.{add-one}
use native.Mathlib.Omega.{arith}
use mathlib.Core.Path.{◌≡◌, refl, sym, ap, ap₂, subst, ◌∙◌}
use mathlib.Core.Bool.{Bool, true, false, cond}
use mathlib.Core.List.{List, [], ◌∷◌, ◌++◌}
use borrow.Author.Tests.{le-leb, lt-leb}
use lib.Dec.{leb}
use lib.ListN.{length, take, drop, set, length-take, length-append}
use lib.Seq.{take-suc-set}
use Rattle.text.specs.Text.{Segment, Text, weight, total}
use Rattle.std.specs.Prelude.{Result, Ok, Err}
use Rattle.text.specs.Refusal.{Outcome, ok, refused, demand, after, outcome}
use Rattle.text.specs.declared.refusal.Refusal.{Refusal}
use Rattle.text.proofs.Sizes.{total-snoc}
use Rattle.text.proofs.Outcomes.{ok-inj, refused-ok, refused-inj, told-met, told-refused}
use Rattle.layout.specs.Bytes.{over, left_by}
use Rattle.layout.specs.Reading.{segment_at}
use Rattle.layout.specs.Walk.{passed_to, Begun}
use Rattle.layout.specs.declared.walk.Walk.{Walk}
use Rattle.layout.proofs.Going.{Going, going-none, going-length, going-ahead, going_more}
use Rattle.search.specs.Answers.{MarksOf, handed, into}

-- the segments seen have been walked over, and their marks stand in front of the buffer, unless the walk is one that stops
pub record Marking (stop : Bool) (f : Text → List ℕ) (s : List ℕ) (n from : ℕ) (buffer : List ℕ) (seen : Text) (w : Walk)
    (ends : ℕ) : Type 0 where
  pub go : Going s n from seen w
  pub marked : stop ≡ false → take w.passed buffer ≡ f seen
  pub ones : ends ≡ total (λ x. x) (f seen)
  pub few : ends ≤ w.passed

pub marking-none : (stop : Bool) (f : Text → List ℕ) (s buffer : List ℕ) (w : Walk) → f [] ≡ [] → Begun s w
    → Marking stop f s w.count w.at buffer [] w 0
unfolding total
marking-none stop f s buffer w none b =
    record {
      go = going-none s w b;
      marked = λ _. rw b.none (sym none);
      ones = sym (ap (total (λ x. x)) none);
      few = omega arith;
    }

module _ {stop : Bool} {f : Text → List ℕ} {s : List ℕ} {n from : ℕ} {buffer : List ℕ} {seen : Text} {w : Walk} {ones : ℕ}
    (q : Marking stop f s n from buffer seen w ones) where
  -- one segment more
  module _ {g : Segment} {next more : ℕ} (read : segment_at s w.at ≡ ok (record { value = g; next = next }))
      (weighs : total weight g ≡ more) (l : w.passed < n) where
    -- there is room for its mark
    pub marking-room : min n ((length s - from) / 3) ≤ length buffer → w.passed < length buffer
    marking-room roomy = omega (arith, going-ahead q.go read weighs l)

    -- the mark that the code writes for it
    module _ (hit : Bool) (last : f (seen ++ (g ∷ [])) ≡ f seen ++ (cond hit 1 0 ∷ [])) (mark : ℕ) (is : mark ≡ cond hit 1 0)
        (fits : length s < 2 ^ 64) {v : Walk} (e : v ≡ passed_to w next more) where
      one_more : (b : Bool) → ones + cond b 1 0 ≤ w.passed + 1
      one_more true = omega (arith, q.few)
      one_more false = omega (arith, q.few)

      pub marking-more : (stop ≡ false → w.passed < length buffer)
          → Marking stop f s n from (cond stop buffer (set buffer w.passed mark)) (seen ++ (g ∷ [])) v (ones + mark)
      marking-more room =
          let on = going_more q.go read weighs fits e l in
          let one : v.passed ≡ w.passed + 1 =
          omega (arith, going-length on, going-length q.go, length-append seen (g ∷ [])) in
          record {
            go = on;
            marked = λ kept. rw (kept, one, add-one) (take-suc-set buffer w.passed mark (room kept))
                ∙ ap₂ (λ (l : List ℕ) (x : ℕ). l ++ (x ∷ [])) (q.marked kept) is ∙ sym last;
            ones = ap₂ ◌+◌ q.ones is ∙ sym (ap (total (λ x. x)) last ∙ total-snoc (λ x. x) (f seen) (cond hit 1 0));
            few = rw (is, one) (one_more hit);
          }

  -- where the segments seen are all, the marks are theirs
  pub marking-marks : (o : Outcome Text) → o ≡ ok seen → stop ≡ false → MarksOf f o buffer
  marking-marks o e kept t h =
      subst (λ (v : Text). take (length v) buffer ≡ f v) (ok-inj (sym e ∙ h))
      (ap (λ (m : ℕ). take m buffer) (going-length q.go) ∙ q.marked kept)

-- after a refusal nothing is asked of the marks
pub marks-not : (f : Text → List ℕ) (o : Outcome Text) (j p : ℕ) (buffer : List ℕ) → o ≡ refused j p → MarksOf f o buffer
marks-not f o j p buffer e t h = absurd (refused-ok j p t (sym e ∙ h))

-- marks are handed over where there is room for them
module _ (n : ℕ) (found out : List ℕ) where
  pub handed-none : length out < n → (refused 10 0 ≡ demand (leb n (length out)) 10 0 (ok (tt {0}))) × (out ≡ handed n found out)
  handed-none l = let short : leb n (length out) ≡ false = lt-leb n (length out) l in rw short (refl, refl)

  pub handed-all : (front : List ℕ) → n ≤ length found → n ≤ length out → front ≡ take n found
      → (ok (tt {0}) ≡ demand (leb n (length out)) 10 0 (ok tt)) × (front ++ drop n out ≡ handed n found out)
  unfolding over
  handed-all front m l is =
      let fit : leb n (length out) ≡ true = le-leb n (length out) l in
      let long : 0 + length (take n found) ≡ n = simp length-take (omega arith) in
      rw (fit, is) (refl, ap (λ (i : ℕ). take n found ++ drop i out) (sym long))

-- what a search answers, and what it leaves in the caller's buffer
module _ {A : Type 0} (h : Text → A) (f : Text → List ℕ) (out : List ℕ) where
  abbrev pub Told : Outcome Text → Outcome A → List ℕ → Type 0
  Told o told left = (told ≡ after o (λ t. ok (h t))) × (left ≡ left_by f o out)

  -- a text that is refused
  pub into-not : (o : Outcome Text) (j p : ℕ) → o ≡ refused j p → Told (into (length out) o) (refused j p) out
  unfolding into
  into-not o j p e = rw e (refl, refl)

  -- the marks that were found, and what was told, of the segments of a text
  module _ (count : A → ℕ) (counts : (t : Text) → count (h t) ≡ length t) (found : List ℕ) (o : Outcome Text) (marks : MarksOf f o found)
      {told : Outcome A} (e : told ≡ after o (λ t. ok (h t))) where
    -- a refusal of the segments
    pub into-refused : (j p : ℕ) → told ≡ refused j p → Told (into (length out) o) (refused j p) out
    into-refused j p is = into-not o j p (told-refused o h j p (sym e ∙ is))

    module _ {x : A} (is : told ≡ ok x) where
      -- there is a mark for each segment that is told of
      pub found-enough : ((t : Text) → length (f t) ≡ length t) → count x ≤ length found
      found-enough long =
          let (t, read, same) = told-met o h x (sym e ∙ is) in
          let all : length (take (length t) found) ≡ length t = ap length (marks t read) ∙ long t in
          omega (arith, length-take (length t) found, counts t, ap count same)

      module _ {v : Result (Unit {0}) Refusal} (says : outcome v ≡ demand (leb (count x) (length out)) 10 0 (ok tt)) {left : List ℕ}
          (w : left ≡ handed (count x) found out) where
        one : (t : Text) (b : Bool) → take (length t) found ≡ f t → o ≡ ok t → h t ≡ x → leb (length t) (length out) ≡ b
            → outcome v ≡ demand b 10 0 (ok tt) → left ≡ cond b (over out 0 (take (length t) found)) out
            → (v ≡ Ok tt → Told (into (length out) o) (ok x) left)
            × ((r : Refusal) → v ≡ Err r → Told (into (length out) o) (refused r.number r.place) left)
        unfolding into
        one t true all read same fits got is = (
          λ s. rw (read, fits) (ap ok (sym same), is ∙ ap (over out 0) all),
          λ r s. absurd (refused-ok _ _ (tt {0}) (sym (ap outcome s) ∙ got)),
        )
        one t false all read same fits got is = (
          λ s. absurd (refused-ok _ _ (tt {0}) (sym got ∙ ap outcome s)),
          λ r s. let i = refused-inj (sym (ap outcome s) ∙ got) in rw (read, fits) (ap₂ refused i.0 i.1, is),
        )

        whole : (v ≡ Ok tt → Told (into (length out) o) (ok x) left)
            × ((r : Refusal) → v ≡ Err r → Told (into (length out) o) (refused r.number r.place) left)
        whole =
            let (t, read, same) = told-met o h x (sym e ∙ is) in
            let n : count x ≡ length t = sym (ap count same) ∙ counts t in
            one t (leb (length t) (length out)) (marks t read) read same refl
            (says ∙ ap (λ (i : ℕ). demand (leb i (length out)) 10 0 (ok tt)) n)
            (w ∙ ap (λ (i : ℕ). handed i found out) n)

        -- they are handed over
        pub into-handed : v ≡ Ok tt → Told (into (length out) o) (ok x) left
        into-handed = whole.0

        -- or there is no room for them
        pub into-short : {r : Refusal} → v ≡ Err r → Told (into (length out) o) (refused r.number r.place) left
        into-short {r} s = whole.1 r s
