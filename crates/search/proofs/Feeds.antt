-- What a feed answers, from the tests that lead there.
use Prim.Native.Nat.{ℕ, ◌+◌}
use native.Mathlib.Omega.{arith}
use mathlib.Core.Path.{◌≡◌, refl, sym, ap, ◌∙◌, fun_ext}
use mathlib.Core.Bool.{Bool, true, false, not, cond}
use mathlib.Core.List.{List, [], ◌∷◌}
use lib.Dec.{eqb}
use Rattle.text.specs.Text.{Segment, Text, total}
use Rattle.text.specs.State.{next, ends, run, marks_from}
use Rattle.text.specs.Refusal.{Outcome, ok, refused, after}
use Rattle.text.proofs.Outcomes.{after-after}
use Rattle.text.specs.Strand.{on_strand}
use Rattle.text.specs.declared.strand.Strand.{Strand}
use Rattle.layout.specs.Reading.{segments_of, lone_segment}
use Rattle.layout.specs.Walk.{begun, Begun}
use Rattle.layout.specs.declared.walk.Walk.{Walk}
use Rattle.layout.proofs.Going.{lone_is}
use Rattle.search.specs.Answers.{Seen, seen_from, entering, Next, next_of, stepped, feeding}
use Rattle.search.proofs.Entries.{Entered, entering-refused, entering-sound}

-- the walk over a lone segment, and what a run tells of it
pub lone-begins : (s : List ℕ) {w : Walk} → w ≡ begun 1 0 → Begun s w × (w.count ≡ 1)
lone-begins s e = (
  record {
    none = ap (λ (v : Walk). v.passed) e;
    small = ap (λ (v : Walk). v.size) e;
    inside = let start = ap (λ (v : Walk). v.at) e in omega (arith, start);
  },
  ap (λ (v : Walk). v.count) e,
)

module _ (P : List ℕ) (st : ℕ) (s : List ℕ) {w : Walk} (lone : w ≡ begun 1 0) where
  run-lone : after (segments_of s w.count w.at) (λ t. ok (seen_from P st t))
      ≡ after (lone_segment s) (λ g. ok (seen_from P st (g ∷ [])))
  run-lone =
      ap (λ (v : Walk). after (segments_of s v.count v.at) (λ t. ok (seen_from P st t))) lone
      ∙ ap (λ (o : Outcome Text). after o (λ t. ok (seen_from P st t))) (lone_is s)
      ∙ after-after (lone_segment s) (λ g. ok (g ∷ [])) (λ t. ok (seen_from P st t))

-- what a feed answers, from what a run over the segment tells of R, the pattern as the strand reads it
module _ (P : List ℕ) (strand : Strand) (s : List ℕ) (st : ℕ) where
  pub fed-not : (j p : ℕ) → entering P st s (ok (tt {0})) ≡ refused j p → feeding P strand st s ≡ refused j p
  unfolding feeding
  fed-not j p e = entering-refused P st s j p e _

  module _ (R : List ℕ) (is : R ≡ on_strand strand P) (y : Entered P st s) {w : Walk} (lone : w ≡ begun 1 0) {told : Outcome Seen}
      (tells : told ≡ after (segments_of s w.count w.at) (λ t. ok (seen_from R st t))) where
    one : told ≡ after (lone_segment s) (λ g. ok (seen_from R st (g ∷ [])))
    one = tells ∙ run-lone R st s lone

    pub fed-run : after told (λ x. ok (next_of x)) ≡ feeding P strand st s
    unfolding feeding seen_from run marks_from total
    fed-run =
        ap (λ (o : Outcome Seen). after o (λ x. ok (next_of x))) one
        ∙ after-after (lone_segment s) (λ g. ok (seen_from R st (g ∷ []))) (λ x. ok (next_of x))
        ∙ ap (after (lone_segment s)) (fun_ext each)
        ∙ ap (λ (Q : List ℕ). stepped Q st s) is
        ∙ sym (entering-sound P st s y (stepped (on_strand strand P) st s))
      where
        counts : (b : Bool) → b ≡ not (eqb (cond b 1 0 + 0) 0)
        counts true = refl
        counts false = refl

        each : (g : Segment) → ◌≡◌ {A = Outcome Next} (ok (next_of (seen_from R st (g ∷ [])))) (ok (record { state = next R st g; ends = ends R st g }))
        each g = ap (λ (b : Bool). ok (record { state = next R st g; ends = b })) (sym (counts (ends R st g)))
