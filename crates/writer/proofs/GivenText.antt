-- Laws of the check of all segments that a write is given: an accepted walk gives exactly the text that the letters are cut into.
use Prim.Native.Nat.{ℕ, zero, suc, ◌+◌, ◌<◌, ◌≤◌}
use native.Mathlib.Omega.{arith}
use mathlib.Core.Path.{◌≡◌, sym, ap, ◌∙◌}
use mathlib.Core.List.{List, [], ◌∷◌, ◌++◌, append_assoc, append-nil}
use lib.Dec.{ltb}
use lib.ListN.{length, get_or, drop, length-append, drop_of_length-le}
use Rattle.text.specs.Text.{Segment, Text}
use Rattle.text.specs.Refusal.{Outcome, ok, refused}
use Rattle.text.proofs.Outcomes.{ok-inj, demand-met, after-met}
use Rattle.layout.specs.Reading.{Taken, many}
use Rattle.writer.specs.Cuts.{cut, sum_from, pieces}
use Rattle.writer.specs.Writing.{Spot, spot, given, Matching, variant_given, segment_given, segments_given}
use Rattle.writer.specs.Answers.{reached}
use Rattle.layout.proofs.Walks.{Walk, walk_none, walk_more, walk_refused, walk-length}
use Rattle.writer.proofs.GivenSegment.{reached-refused, reached-ok, variants-are}
use Rattle.writer.proofs.Texts.{Matched, matched-none, matched-within, matched-more, given-first}

module _ (letters lengths counts : List ℕ) where
  -- how a walk over segments reads the next one
  abbrev pub next-segment : Text → Spot → Outcome (Taken Segment Spot)
  next-segment seen at = segment_given letters lengths counts (length seen) at

  -- what an accepted segment j gives
  abbrev cut_out : ℕ → ℕ → ℕ → Taken Segment Spot
  cut_out j v at =
      let n : ℕ = get_or counts j 0 in
      record { value = pieces letters lengths v at n; next = spot (v + n) (at + sum_from lengths v n) }

  segment-is :
      {j v at : ℕ} → Matched letters lengths counts j v at → j < length counts → (x : Taken Segment Spot) →
      segment_given letters lengths counts j (spot v at) ≡ ok x → x ≡ cut_out j v at
  unfolding segment_given
  segment-is {j} {v} {at} m l x e =
      let n : ℕ = get_or counts j 0 in
      let a = demand-met (ltb 0 n) 6 j (many (variant_given letters lengths) n [] (spot v at)) x e in
      variants-are letters lengths n [] v at x (matched-within m l).listed a.1

  -- n segments after those seen: an accepted walk over them gives the rest of the text
  segments-are :
      (n : ℕ) (seen : Text) (v at : ℕ) (x : Taken Text Spot) → Matched letters lengths counts (length seen) v at →
      length seen + n ≡ length counts → many next-segment n seen (spot v at) ≡ ok x →
      x.value ≡ seen ++ given (drop at letters) (drop v lengths) (drop (length seen) counts)
  unfolding many given cut
  segments-are zero seen v at x m l e =
      let over : length counts ≤ length seen = omega arith in
      ap (λ (y : Taken Text Spot). y.value) (sym (ok-inj e)) ∙ rw (drop_of_length-le counts over) (sym (append-nil seen))
  segments-are (suc n) seen v at x m l e =
      let j : ℕ = length seen in
      let c : ℕ = get_or counts j 0 in
      let some : j < length counts = omega arith in
      let more : Text = seen ++ (pieces letters lengths v at c ∷ []) in
      let next : ℕ = at + sum_from lengths v c in
      let (y, f, h) = after-met (next-segment seen (spot v at)) (λ y. many next-segment n (seen ++ (y.value ∷ [])) y.next) x e in
      let rest : many next-segment n more (spot (v + c) next) ≡ ok x = rw (segment-is m some y f) at h in
      let size : length more ≡ j + 1 = length-append seen (pieces letters lengths v at c ∷ []) in
      let m' : Matched letters lengths counts (length more) (v + c) next = rw size (matched-more m some) in
      let l' : length more + n ≡ length counts = omega arith in
      segments-are n more (v + c) next x m' l' rest ∙ rw (size, given-first m some, append_assoc)

-- an accepted walk over all segments gives the whole text
pub text-is :
    {letters lengths counts : List ℕ} → Matching letters lengths counts → (x : Taken Text Spot) →
    segments_given letters lengths counts ≡ ok x → x.value ≡ given letters lengths counts
unfolding segments_given
text-is {letters} {lengths} {counts} m x e =
    let all : 0 + length counts ≡ length counts = omega arith in
    segments-are letters lengths counts (length counts) [] 0 0 x (matched-none m) all e

-- j segments are accepted, and the next one begins with variant v and letter `at`
pub record SegmentsAccepted (letters lengths counts : List ℕ) (v at j : ℕ) : Type 0 where
  pub most : j ≤ length counts
  pub matched : Matched letters lengths counts j v at
  pub seen : Text
  pub walk : Walk (next-segment letters lengths counts) (spot 0 0) j seen (spot v at)

pub accepted-none : {letters lengths counts : List ℕ} → Matching letters lengths counts → SegmentsAccepted letters lengths counts 0 0 0
accepted-none m = record { most = omega arith; matched = matched-none m; seen = []; walk = walk_none _ (spot 0 0) }

module _ {letters lengths counts : List ℕ} {v at j : ℕ} (w : SegmentsAccepted letters lengths counts v at j) where
  -- the next segment is number j
  number : length w.seen ≡ j
  number = walk-length _ (spot 0 0) j w.seen (spot v at) w.walk

  pub accepted-refused :
      (m p : ℕ) → j < length counts → reached (segment_given letters lengths counts j (spot v at)) ≡ refused m p →
      reached (segments_given letters lengths counts) ≡ refused m p
  unfolding segments_given
  accepted-refused m p l e =
      let f : next-segment letters lengths counts w.seen (spot v at) ≡ refused m p = rw number (reached-refused _ m p e) in
      ap reached (walk_refused _ (spot 0 0) j w.seen (spot v at) w.walk (length counts) l m p f)

  pub accepted-more :
      (next m : ℕ) → j < length counts → m ≡ get_or counts j 0 → reached (segment_given letters lengths counts j (spot v at)) ≡ ok next →
      SegmentsAccepted letters lengths counts (v + m) next (j + 1)
  accepted-more next m l c e =
      let to = cut_out letters lengths counts j v at in
      let r = reached-ok (segment_given letters lengths counts j (spot v at)) next e in
      let is = segment-is letters lengths counts w.matched l r.value r.accepts in
      let s : next ≡ to.next.letter = r.arrives ∙ ap (λ (x : Taken Segment Spot). x.next.letter) is in
      let read : next-segment letters lengths counts w.seen (spot v at) ≡ ok to = rw number (r.accepts ∙ ap ok is) in
      let walk = walk_more _ (spot 0 0) j w.seen (spot v at) w.walk to read in
      rw (c, s) record { most = omega arith; matched = matched-more w.matched l; seen = w.seen ++ (to.value ∷ []); walk = walk }

  pub accepted-end : length counts ≤ j → reached (segments_given letters lengths counts) ≡ ok at
  unfolding segments_given
  accepted-end l = let e : length counts ≡ j = omega (arith, w.most) in rw (e, w.walk)
