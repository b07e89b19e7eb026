-- Laws of a walk over the segments of a stretch by its value. `Going` is its invariant. Where a segment is refused, or the end, all are
-- refused so; else the text was read.
use Rattle.std.proofs.Common.{◌≡◌, ℕ, ◌+◌, ◌-◌, ◌*◌, ◌/◌, ◌%◌, ◌^◌, ◌<◌, ◌≤◌, min, List, [], ◌∷◌, ◌++◌, length, sym, refl, ap, ◌∙◌, mod-eq_of_lt, arith}
use mathlib.Core.Path.{fun_ext}
use Rattle.text.specs.Text.{Segment, Text, weight, total}
use Rattle.text.specs.Refusal.{Outcome, ok, refused, after, outcome}
use Rattle.text.specs.declared.refusal.Refusal.{Refusal}
use Rattle.text.proofs.Outcomes.{told-met, told-refused, after-after}
use Rattle.layout.specs.Bytes.{word}
use Rattle.layout.specs.Pieces.{open_at, closed_at}
use Rattle.layout.specs.Reading.{Taken, many, segment_at, segments_of, whole_stretch, lone_segment}
use Rattle.layout.specs.Walk.{begun, opened_at, passed_to, end_at, Begun}
use Rattle.layout.specs.declared.walk.Walk.{Walk}
use Rattle.layout.proofs.Walks.{walk-length}
use Rattle.layout.proofs.Frames.{open-cut, open-counts, open-met}
use Rattle.layout.proofs.Stretches.{InStretch, through-none, through-more, through-refused, through-all, segment-bytes}
use Rattle.std.specs.Prelude.{Result, Ok, Err}

-- the answers of the steps, from the tests that lead there
module _ (s : List ℕ) where
  pub opened-cut : length s < 2 → opened_at s ≡ refused 5 0
  unfolding opened_at
  opened-cut l = rw (open-cut s l)

  pub opened-is : (n : ℕ) → n ≡ word s 0 → 2 ≤ length s → opened_at s ≡ ok (begun n 2)
  unfolding opened_at
  opened-is n e l = rw (open-counts s l, e)

pub passed_is : (w : Walk) (next size passed sum : ℕ) → passed ≡ (w.passed + 1) % 2 ^ 64 → sum ≡ (w.size + size) % 2 ^ 64
    → passed_to w next size ≡ record { count = w.count; passed = passed; at = next; size = sum }
unfolding passed_to
passed_is w next size passed sum e f = rw (e, f)

-- a segment more is passed, and the walk stands after it
pub passed_on : (w : Walk) (next size : ℕ) {v : Walk} → w.passed + 1 < 2 ^ 64 → v ≡ passed_to w next size
    → (v.count ≡ w.count) × (v.passed ≡ w.passed + 1) × (v.at ≡ next)
unfolding passed_to
passed_on w next size near e = (
  ap (λ (x : Walk). x.count) e,
  ap (λ (x : Walk). x.passed) e ∙ mod-eq_of_lt near,
  ap (λ (x : Walk). x.at) e,
)

-- a stretch that was opened: the walk stands before its first segment, and its text is that of the segments from there on
pub record Opening (s : List ℕ) (w : Walk) : Type 0 where
  pub begins : Begun s w
  pub states : w.count ≡ word s 0
  pub first : w.at ≡ 2
  pub opens : open_at s ≡ ok w.count
  pub whole : whole_stretch s ≡ segments_of s w.count w.at

module _ (s : List ℕ) {r : Result Walk Refusal} (told : outcome r ≡ opened_at s) where
  pub open-not : {f : Refusal} → r ≡ Err f
      → (open_at s ≡ refused f.number f.place) × (whole_stretch s ≡ refused f.number f.place)
  unfolding opened_at whole_stretch
  open-not {f} is =
      let e = told-refused (open_at s) (λ n. begun n 2) f.number f.place (sym told ∙ ap outcome is) in
      (e, rw e)

  pub open_is : {w : Walk} → r ≡ Ok w → Opening s w
  unfolding opened_at whole_stretch
  open_is {w} is =
      let (n, e, same) = told-met (open_at s) (λ n. begun n 2) w (sym told ∙ ap outcome is) in
      let o = open-met s n e in
      let count : n ≡ w.count = ap (λ (v : Walk). v.count) same in
      let at : 2 ≡ w.at = ap (λ (v : Walk). v.at) same in
      record {
        begins = record {
          none = sym (ap (λ (v : Walk). v.passed) same);
          small = sym (ap (λ (v : Walk). v.size) same);
          inside = omega (arith, o.counted, at);
        };
        states = sym count ∙ o.count;
        first = sym at;
        opens = e ∙ ap ok count;
        whole = rw e (λ i. segments_of s (count i) (at i));
      }

-- a lone segment is a text of one
pub lone_is : (s : List ℕ) → segments_of s 1 0 ≡ after (lone_segment s) (λ g. ok (g ∷ []))
unfolding segments_of lone_segment many
lone_is s =
    after-after (segment_at s 0) one end
    ∙ ap (after (segment_at s 0)) (fun_ext each)
    ∙ sym (after-after (segment_at s 0) (λ x. after (closed_at s x.next 1) λ _. ok x.value) (λ g. ok (g ∷ [])))
  where
    one : Taken Segment ℕ → Outcome (Taken Text ℕ)
    one x = ok (record { value = x.value ∷ []; next = x.next })

    end : Taken Text ℕ → Outcome Text
    end x = after (closed_at s x.next 1) λ _. ok x.value

    each : (x : Taken Segment ℕ)
        → after (closed_at s x.next 1) (λ _. ok (x.value ∷ []))
        ≡ after (after (closed_at s x.next 1) (λ _. ok x.value)) (λ g. ok (g ∷ []))
    each x = sym (after-after (closed_at s x.next 1) (λ _. ok x.value) (λ g. ok (g ∷ [])))

-- the walk stands after those of the n segments from `from` on that were seen
pub record Going (s : List ℕ) (n from : ℕ) (seen : Text) (w : Walk) : Type 0 where
  pub count : w.count ≡ n
  pub few : w.passed ≤ n
  pub far : from + 3 * w.passed ≤ w.at
  pub sum : InStretch s from w.passed seen w.at w.size

pub going-none : (s : List ℕ) (w : Walk) → Begun s w → Going s w.count w.at [] w
going-none s w b =
    record {
      count = refl;
      few = omega (arith, b.none);
      far = omega (arith, b.none);
      sum = rw (b.none, b.small) (through-none s w.at b.inside);
    }

module _ {s : List ℕ} {n from : ℕ} {seen : Text} {w : Walk} (q : Going s n from seen w) where
  pub going-length : length seen ≡ w.passed
  going-length = walk-length (λ _. segment_at s) from w.passed seen w.at q.sum.walk

  -- one less is left after one more is passed
  pub going_less : w.passed < n → length s < 2 ^ 64 → (next more : ℕ) {v : Walk} → v ≡ passed_to w next more
      → n - v.passed < n - w.passed
  unfolding passed_to
  going_less l fits next more e = let one = ap (λ (x : Walk). x.passed) e in omega (arith, one, q.far, q.sum.inside)

  -- the next segment is refused
  pub going-refused : w.passed < n → {j p : ℕ} → segment_at s w.at ≡ refused j p → segments_of s n from ≡ refused j p
  unfolding segments_of
  going-refused l {j} {p} e = rw (through-refused s from w.passed seen w.at w.size q.sum n l j p e)

  -- it was read
  module _ {g : Segment} {next : ℕ} (read : segment_at s w.at ≡ ok (record { value = g; next = next })) where
    three : w.at + 3 ≤ next
    three = segment-bytes s w.at (record { value = g; next = next }) read

    module _ {more : ℕ} (weighs : total weight g ≡ more) where
      further : InStretch s from (w.passed + 1) (seen ++ (g ∷ [])) next (w.size + more)
      further = through-more s from w.passed seen w.at w.size q.sum g next more read weighs

      -- there are no more than the bytes have room for
      pub going-ahead : w.passed < n → w.passed < min n ((length s - from) / 3)
      going-ahead l = omega (arith, three, q.far, further.inside)

      module _ (fits : length s < 2 ^ 64) {v : Walk} (e : v ≡ passed_to w next more) where
        on : v ≡ record { count = w.count; passed = w.passed + 1; at = next; size = w.size + more }
        on =
            let one : w.passed + 1 < 2 ^ 64 = omega (arith, q.far, three, further.inside) in
            let small : w.size + more < 2 ^ 64 = omega (arith, further.small, further.inside) in
            e ∙ passed_is w next more _ _ (sym (mod-eq_of_lt one)) (sym (mod-eq_of_lt small))

        pub going_more : w.passed < n → Going s n from (seen ++ (g ∷ [])) v
        going_more l =
            rw on
            (record { count = q.count; few = omega (arith, l); far = omega (arith, three, q.far); sum = further })

  -- after the last
  module _ (done : n ≤ w.passed) where
    all : many (λ _. segment_at s) n [] from ≡ ok (record { value = seen; next = w.at })
    all = through-all s from w.passed seen w.at w.size q.sum n (omega (arith, done, q.few))

    module _ {v : Result (Unit {0}) Refusal} (told : outcome v ≡ end_at s w) where
      pub going-not : {f : Refusal} → v ≡ Err f → segments_of s n from ≡ refused f.number f.place
      unfolding segments_of end_at
      going-not is = rw (all, ← q.count, ← told, is)

      pub going-sound : v ≡ Ok tt → segments_of s n from ≡ ok seen
      unfolding segments_of end_at
      going-sound is = rw (all, ← q.count, ← told, is)
