-- Laws of the braces of a stretch, variant by variant and segment by segment.
use Prim.Native.Nat.{ℕ, zero, suc, ◌+◌, ◌<◌, ◌≤◌}
use native.Mathlib.Numerals.{add-one}
use native.Mathlib.Omega.{arith}
use mathlib.Core.Path.{◌≡◌, refl, sym, ap, ◌∙◌}
use mathlib.Core.Bool.{Bool, true, false, cond}
use mathlib.Core.List.{List, [], ◌∷◌, ◌++◌, append-nil, append_assoc, map}
use lib.Dec.{eqb, ltb, leb}
use lib.ListN.{length, drop, get_or, drop_of_length-le, length-map, get_or-map}
use lib.Seq.{drop-cons}
use borrow.Author.Tests.{eq-eqb, ne_eqb, ltb-true, ltb-false, leb-true}
use Rattle.text.specs.Letter.{meant}
use Rattle.text.specs.Text.{Segment, Text, segment}
use Rattle.text.specs.Refusal.{Outcome, ok, refused}
use Rattle.text.specs.declared.refusal.Refusal.{Refusal}
use Rattle.text.proofs.Outcomes.{told-refused}
use Rattle.text.proofs.Truth.{and_left, and_right}
use Rattle.layout.specs.Reading.{stretch_of}
use Rattle.layout.specs.Encoding.{bytes_of, raised_text, all, writable_segment, writable}
use Rattle.layout.specs.Standing.{standing}
use Rattle.layout.proofs.Decoding.{stretch-means}
use Rattle.stretch.specs.Places.{Found, found, end, Reading, handed, reading, read_from, read_in, part_of}
use Rattle.stretch.specs.Answers.{Accepted, checking, told_got}
use Rattle.stretch.specs.declared.reading.Got.{Got}
use Rattle.layout.proofs.Stands.{Bytes}
use Rattle.layout.proofs.Theorems.{accepted-writable}
use Rattle.stretch.proofs.Theorems.{accepted-letters}
use Rattle.lines.specs.Puts.{Put}
use Rattle.lines.proofs.Putting.{put-none, put-more, put-length}
use Rattle.eds_notation.specs.Braces.{listed, braced, in_braces, ThereIs, SegmentShown, BracesPut}
use Rattle.std.proofs.Common.{Ok, Err}

-- a reading that found something in segment j
abbrev here : ℕ → Outcome Found → ℕ → Bool
here j (ok (found a b)) i = eqb i j
here j (ok end) i = false
here j (refused n p) i = false

abbrev pub is_here : ℕ → Reading → Bool
is_here j r = here j r.answer r.segment

here-from : (t : Text) (j v : ℕ) → is_here j (read_from t j v) ≡ ltb v (length (segment t j))
unfolding read_from
here-from t j v = go (ltb v (length (segment t j))) (ltb (j + 1) (length t))
  where
    go : (a b : Bool) →
        is_here j (cond a (handed t j v) (cond b (handed t (j + 1) 0) (record { answer = ok end; segment = j; variant = v }))) ≡ a
    go true b = eq-eqb j j refl
    go false true = ne_eqb (j + 1) j (λ e. let z : ⊥ = omega arith in z)
    go false false = refl

-- whether a variant is there
pub there-is : (s : List ℕ) (j v : ℕ) (g : Got) → told_got g ≡ reading s j v → ThereIs s j v (is_here j (told_got g))
unfolding ThereIs reading
there-is s j v g e t is l =
    let said : told_got g ≡ read_from t j v = e ∙ ap (λ (o : Outcome Text). read_in o j v) is in
    ap (is_here j) said ∙ here-from t j v

-- every segment of an accepted text has at most 255 variants
every_one : {A : Type 0} (f : A → Bool) (l : List A) (d : A) → all f l ≡ true → (j : ℕ) → j < length l → f (get_or l j d) ≡ true
unfolding all
every_one f [] d e j k = absurd (let z : ⊥ = omega arith in z)
every_one f (a ∷ l) d e zero k = and_left (f a) (all f l) e
every_one f (a ∷ l) d e (suc j) k = every_one f l d (and_right (f a) (all f l) e) j (omega arith)

few : (s : List ℕ) → Bytes s → (t : Text) → stretch_of s ≡ ok t → (j : ℕ) → j < length t → length (segment t j) ≤ 255
unfolding writable writable_segment
few s bytes t e j l =
    let g : Segment = segment t j in
    let w = and_left (all writable_segment t) _ (accepted-writable s bytes t e) in
    let one = every_one writable_segment t [] w j l in
    leb-true (length g) 255 (and_right (ltb 0 (length g)) (leb (length g) 255) (and_left _ _ (and_left _ _ one)))

-- the text as it stands has as many segments, each of as many variants
segments-same : (s : List ℕ) (t : Text) → stretch_of s ≡ ok t → length (standing s) ≡ length t
unfolding raised_text
segments-same s t e = sym (length-map (standing s) (map meant)) ∙ ap length (stretch-means s t e)

variants-same : (s : List ℕ) (t : Text) → stretch_of s ≡ ok t → (j : ℕ) → length (segment (standing s) j) ≡ length (segment t j)
unfolding raised_text
variants-same s t e j =
    sym (length-map (segment (standing s) j) meant)
    ∙ ap length (sym (get_or-map (map meant) (standing s) j []))
    ∙ ap (λ (u : Text). length (get_or u j [])) (stretch-means s t e)

-- v variants of the segment g are put, and `mark` stands before the next one
pub record Lists (g : Segment) (d : List ℕ) (at : ℕ) (out : List ℕ) (next mark v : ℕ) : Type 0 where
  pub done : List ℕ
  pub put : Put d at done out next
  pub whole : done ++ listed mark (drop v g) ≡ braced g

pub record Showing (s : List ℕ) (j : ℕ) (d : List ℕ) (at : ℕ) (out : List ℕ) (next mark v : ℕ) : Type 0 where
  pub same : length out ≡ length d
  pub lists : (t : Text) → stretch_of s ≡ ok t → j < length t → Lists (segment (standing s) j) d at out next mark v

pub showing-none : (s : List ℕ) (j : ℕ) (d : List ℕ) (at : ℕ) → Showing s j d at d at 0x7B 0
showing-none s j d at = record { same = refl; lists = λ t e l. record { done = []; put = put-none d at; whole = refl } }

-- one variant more, and the end
module _ (g : Segment) {d : List ℕ} {at : ℕ} {out : List ℕ} {next mark v : ℕ} (h : Lists g d at out next mark v) where
  lists-more :
      v < length g → {one two : List ℕ} {a b : ℕ} → Put out next (mark ∷ []) one a → Put one a (get_or g v []) two b →
      Lists g d at two b 0x2C (v + 1)
  unfolding listed
  lists-more l p q =
      let x : List ℕ = get_or g v [] in
      let n : ℕ = v + 1 in
      let step : drop v g ≡ x ∷ drop n g = let e : n ≡ suc v = add-one v in rw e (drop-cons g v [] l) in
      let rest : List ℕ = listed 0x2C (drop n g) in
      let shape : (h.done ++ (mark ∷ [])) ++ x ++ rest ≡ h.done ++ ((mark ∷ []) ++ (x ++ rest)) =
      append_assoc (h.done ++ (mark ∷ [])) x rest ∙ append_assoc h.done (mark ∷ []) (x ++ rest) in
      let here : h.done ++ ((mark ∷ []) ++ (x ++ rest)) ≡ h.done ++ listed mark (drop v g) = rw step refl in
      record { done = (h.done ++ (mark ∷ [])) ++ x; put = put-more (put-more h.put p) q; whole = shape ∙ here ∙ h.whole }

  lists-end : length g ≤ v → {one : List ℕ} {a : ℕ} → Put out next (0x7D ∷ []) one a → Put d at (braced g) one a
  unfolding listed
  lists-end l {one} {a} p =
      let none : drop v g ≡ [] = drop_of_length-le g l in
      let all : h.done ++ (0x7D ∷ []) ≡ braced g = (rw none at h.whole) in
      let both : Put d at (h.done ++ (0x7D ∷ [])) one a = put-more h.put p in
      rw all at both

module _ {s : List ℕ} {j : ℕ} {d : List ℕ} {at : ℕ} {out : List ℕ} {next mark v : ℕ} (h : Showing s j d at out next mark v) where
  module _ {one : List ℕ} {a : ℕ} (p : Put out next (0x7D ∷ []) one a) where
    pub showing-over : (b : Bool) → ThereIs s j v b → b ≡ false → SegmentShown s j d at one a
    unfolding ThereIs SegmentShown
    showing-over b i e t is l =
        let far : length (segment t j) ≤ v = ltb-false v (length (segment t j)) (sym (i t is l) ∙ e) in
        lists-end (segment (standing s) j) (h.lists t is l) (rw (variants-same s t is j) far) p

    pub showing-last : Bytes s → 255 ≤ v → SegmentShown s j d at one a
    unfolding SegmentShown
    showing-last bytes k t is l =
        let far : length (segment t j) ≤ v = omega (arith, few s bytes t is j l) in
        lists-end (segment (standing s) j) (h.lists t is l) (rw (variants-same s t is j) far) p

    pub showing-length : length one ≡ length d
    showing-length = put-length p ∙ h.same

  pub showing-more :
      (b : Bool) → ThereIs s j v b → b ≡ true → {one two : List ℕ} {m n : ℕ} → Put out next (mark ∷ []) one m →
      (x : List ℕ) → x ≡ part_of s (reading s j v).answer → Put one m x two n →
      Showing s j d at two n 0x2C (v + 1)
  unfolding ThereIs
  showing-more b i e {one} {two} {m} {n} p x is q =
      record {
        same = put-length q ∙ put-length p ∙ h.same;
        lists = λ t a l.
            let g : Segment = segment (standing s) j in
            let near : v < length g = rw (variants-same s t a j) (ltb-true v (length (segment t j)) (sym (i t a l) ∙ e)) in
            let letters : x ≡ get_or g v [] = is ∙ accepted-letters s t a j v near in
            let r : Put one m (get_or g v []) two n = rw letters at q in
            lists-more g (h.lists t a l) near p r;
      }

-- k segments are put
pub record Bracing (s : List ℕ) (segments : ℕ) (d : List ℕ) (out : List ℕ) (next k : ℕ) : Type 0 where
  pub text : Text
  pub means : stretch_of s ≡ ok text
  pub count : segments ≡ length text
  pub done : List ℕ
  pub put : Put d 0 done out next
  pub whole : done ++ in_braces (drop k (standing s)) ≡ in_braces (standing s)

pub bracing-none : (s : List ℕ) (segments : ℕ) (d : List ℕ) → Accepted s segments → Bracing s segments d d 0 0
bracing-none s segments d a =
    record { text = a.text; means = a.means; count = a.count; done = []; put = put-none d 0; whole = refl }

module _ {s : List ℕ} {segments : ℕ} {d out : List ℕ} {next k : ℕ} (h : Bracing s segments d out next k) where
  pub bracing-more : k < segments → {one : List ℕ} {a : ℕ} → SegmentShown s k out next one a → Bracing s segments d one a (k + 1)
  unfolding SegmentShown in_braces bytes_of
  bracing-more l {one} {a} p =
      let T : Text = standing s in
      let near : k < length h.text = omega (arith, h.count) in
      let inside : k < length T = rw (segments-same s h.text h.means) near in
      let g : Segment = segment T k in
      let q : Put out next (braced g) one a = p h.text h.means near in
      let n : ℕ = k + 1 in
      let step : drop k T ≡ g ∷ drop n T = let e : n ≡ suc k = add-one k in rw e (drop-cons T k [] inside) in
      let rest : List ℕ = bytes_of braced (drop n T) in
      let shape : h.done ++ braced g ++ rest ≡ h.done ++ (braced g ++ rest) = append_assoc h.done (braced g) rest in
      let here : h.done ++ (braced g ++ rest) ≡ h.done ++ bytes_of braced (drop k T) = rw step refl in
      record {
        text = h.text;
        means = h.means;
        count = h.count;
        done = h.done ++ braced g;
        put = put-more h.put q;
        whole = shape ∙ here ∙ h.whole;
      }

  pub bracing-end : segments ≤ k → BracesPut s d (Ok next) out
  unfolding BracesPut in_braces bytes_of
  bracing-end l =
      let T : Text = standing s in
      let far : length T ≤ k = rw (segments-same s h.text h.means) (let f : length h.text ≤ k = omega (arith, h.count) in f) in
      let none : drop k T ≡ [] = drop_of_length-le T far in
      let all : h.done ++ [] ≡ bytes_of braced T = rw none at h.whole in
      let same : h.done ≡ bytes_of braced T = sym (append-nil h.done) ∙ all in
      record { text = h.text; means = h.means; put = rw same at h.put }

  pub bracing-length : length out ≡ length d
  bracing-length = put-length h.put

pub refused-braces : (s d : List ℕ) (w : Refusal) → refused w.number w.place ≡ checking s → BracesPut s d (Err w) d
unfolding BracesPut checking
refused-braces s d w e = (told-refused (stretch_of s) _ w.number w.place (sym e), refl)

-- the same, of an answer that is known
pub there-as : (s : List ℕ) (j v : ℕ) (g h : Got) → g ≡ h → told_got g ≡ reading s j v → ThereIs s j v (is_here j (told_got h))
there-as s j v g h e is = there-is s j v h (sym (ap told_got e) ∙ is)
