-- Laws of the second pass: what one line adds to the text, and that the lines add up to it.
use Prim.Native.Nat.{ℕ, suc, ◌+◌, ◌-◌, ◌<◌, ◌≤◌, min}
use native.Mathlib.Omega.{arith}
use native.Mathlib.Decide.{dec_lt}
use mathlib.Core.Path.{◌≡◌, refl, sym, ap, ◌∙◌}
use mathlib.Core.Logic.{by_cases}
use mathlib.Core.Bool.{Bool, true, false, ◌||◌, ◌&&◌, cond}
use mathlib.Core.List.{List, [], ◌∷◌, ◌++◌, append_assoc, append-nil}
use lib.Dec.{leb, ltb}
use lib.ListN.{length, take, drop, length-append, length-take, length-drop, length-map}
use borrow.Author.Tests.{le-ltb, lt-ltb, leb-true}
use Rattle.text.specs.Letter.{meant}
use Rattle.text.specs.Text.{Variant, Text}
use Rattle.text.specs.Compare.{same}
use Rattle.text.specs.Refusal.{ok, demand, after}
use Rattle.text.proofs.Outcomes.{ok-inj, demand-met, after-met}
use Rattle.text.proofs.Truth.{and_left, and_right}
use Rattle.layout.specs.Bytes.{word_bytes, over, part}
use Rattle.layout.specs.Encoding.{all, bytes_of, encode_segment, encode}
use Rattle.layout.specs.Sizes.{first_segment}
use Rattle.layout.proofs.Rows.{bytes-append}
use Rattle.layout.proofs.Overs.{Emitted, emitted-none, emitted-length, emitted-room, emitted-more, emitted-end, over_none, over-over}
use Rattle.vcf.specs.Pieces.{pieces, lines, Ends, next_line}
use Rattle.vcf.specs.Records.{allele, alternates, alternates_sound, beyond, field, position, reference, alts, behind, is_record}
use Rattle.vcf.specs.Records.{outside, agrees, passed_over, comment, fitting, idle, records, touching}
use Rattle.vcf.specs.Records.{placed}
use Rattle.vcf.specs.Building.{gap, text_from, window_text}
use Rattle.vcf.specs.Surveys.{Readable}
use Rattle.vcf.specs.Emission.{gap_of, line_text, line_base, line_left, Lies, Placing}
use Rattle.vcf.proofs.Marks.{lines_next, lines_none, next-behind}
use Rattle.vcf.proofs.Meant.{alternates-meant}
use Rattle.vcf.proofs.Scanning.{nothing-in}
use Rattle.vcf.proofs.Windows.{placed-some, placed-small, outside-capped, outside-some, agrees-inside}

abbrev pub bytes : Text → List ℕ
bytes T = bytes_of encode_segment T

-- the bases between records, as the code puts them
pub gap-of : (w : List ℕ) (a b : ℕ) → b ≤ length w → gap w a b ≡ gap_of (part w a (b - a))
unfolding gap gap_of
gap-of w a b l =
    let size : length (part w a (b - a)) ≡ b - a = size_of in
    by_cases (dec_lt a b)
    (λ (m : a < b). rw (lt-ltb a b m, size, lt-ltb 0 (b - a) (omega arith)))
    (λ (m : ¬ (a < b)). rw (le-ltb a b (omega arith), size, le-ltb 0 (b - a) (omega arith)))
  where
    size_of : length (part w a (b - a)) ≡ b - a
    size_of = simp (length-take, length-drop) (omega arith)

module _ (w : List ℕ) (p base : ℕ) (l : List ℕ) where
  pub idle-comment : comment l ≡ true → idle w p l ≡ true
  unfolding idle
  idle-comment e = rw e

  -- a line that has no position
  pub idle-nowhere : position l ≡ 0 → placed w p ≡ true → {left : ℕ} → (idle w p l ≡ false → Lies w p base left l) → idle w p l ≡ true
  idle-nowhere e put {left} lies = step (idle w p l) refl
    where
      step : (b : Bool) → idle w p l ≡ b → b ≡ true
      step true h = refl
      step false h = absurd (let z : ⊥ = omega (arith, e, lies h, placed-some w p put) in z)

  -- a line that adds nothing
  pub idle-line :
      idle w p l ≡ true → (d : List ℕ) (at left : ℕ) →
      ((left ≡ line_left w p left l) × (base ≡ line_base w p base l) × (at ≡ at + length (bytes (line_text w p base l))))
      × (d ≡ over d at (bytes (line_text w p base l)))
  unfolding line_text line_base line_left bytes_of
  idle-line e d at left = rw e ((refl, refl, omega arith), sym (over_none d at))

  module _ (plain : comment l ≡ false) (put : placed w p ≡ true) (r : ℕ) (at : r ≡ position l) (ref : List ℕ) (refd : ref ≡ reference l)
      (end : ℕ) (ends : end ≡ min beyond (r + length ref)) where
    pub idle-is : (b : Bool) → b ≡ outside w p r end → idle w p l ≡ b
    unfolding idle
    idle-is b out = rw plain (sym (out ∙ rw (ends, at, refd) (outside-capped w p (position l) (behind l) put)))

    module _ (out : false ≡ outside w p r end) (count : ℕ) (lies : idle w p l ≡ false → Lies w p base count l) where
      there : Lies w p base count l
      there = lies (idle-is false out)

      small : p + length w ≤ 2147483648
      small = placed-small w p put (outside-some w p r end (sym out))

      whole : end ≡ behind l
      whole = let z : length ref ≡ length (reference l) = ap length refd in omega (arith, there, small)

      pub busy-bounds : (p ≤ r) × (base ≤ r - p) × (r - p ≤ length w) × (p ≤ end) × (0 < count)
      busy-bounds = let t = there in (omega arith, omega arith, omega arith, omega (arith, whole), t.some)

      pub busy-few : (alt : List ℕ) → alt ≡ meant (field l 4) → length (alternates alt) ≤ 254
      busy-few alt e = rw (e, alternates-meant (field l 4)) there.few

      abbrev pub between : List ℕ
      between = bytes (gap_of (part w base (r - p - base)))

      abbrev pub own : List ℕ → List ℕ
      own alt = encode_segment (ref ∷ alternates alt)

      busy-bytes : (alt : List ℕ) → alt ≡ meant (field l 4) → bytes (line_text w p base l) ≡ between ++ own alt
      unfolding line_text bytes_of
      busy-bytes alt e =
          let g : Text = gap w base (position l - p) in
          let room : position l - p ≤ length w = (let t = there in omega arith) in
          let o : gap w base (position l - p) ≡ gap_of (part w base (r - p - base)) = gap-of w base (position l - p) room ∙ rw at in
          rw (
            idle-is false out,
            bytes-append encode_segment g ((reference l ∷ alts l) ∷ []),
            o,
            e,
            alternates-meant
                (field l 4),
            refd,
            append-nil,
          )

      pub busy-room :
          (alt : List ℕ) → alt ≡ meant (field l 4) → (n m : ℕ) → n + length (bytes (line_text w p base l)) ≤ m →
          (n + length between ≤ m) × (n + length between + length (own alt) ≤ m)
      busy-room alt e n m h =
          let z : length (bytes (line_text w p base l)) ≡ length between + length (own alt) =
          ap length (busy-bytes alt e) ∙ length-append between (own alt) in
          (omega arith, omega arith)

      -- what the record adds
      pub busy-line :
          (alt : List ℕ) → alt ≡ meant (field l 4) → (d : List ℕ) (n : ℕ) → n + length (bytes (line_text w p base l)) ≤ length d →
          (next last : ℕ) → next ≡ n + length between → last ≡ next + length (own alt) →
          (x y : List ℕ) → x ≡ over d n between → y ≡ over x next (own alt) →
          ((count - 1 ≡ line_left w p count l) × (end - p ≡ line_base w p base l) × (last ≡ n + length (bytes (line_text w p base l))))
          × (y ≡ over d n (bytes (line_text w p base l)))
      unfolding line_base line_left
      busy-line alt e d n room next last f g x y h k =
          let b = busy-bytes alt e in
          let z : length (bytes (line_text w p base l)) ≡ length between + length (own alt) =
          ap length b ∙ length-append between (own alt) in
          let fits : n + length between ≤ length d = omega arith in
          let based : end - p ≡ line_base w p base l = (rw (idle-is false out) (ap (λ (v : ℕ). v - p) whole)) in
          let fewer : count - 1 ≡ line_left w p count l = rw (idle-is false out) in
          ((fewer, based, omega arith), k ∙ rw (h, f, b) (over-over d n between fits (own alt)))

-- the records left after one line, and what it adds to the text
pub record Went (name w : List ℕ) (p base n from : ℕ) (l : List ℕ) (ls rs : List (List ℕ)) : Type 0 where
  pub next : ℕ
  pub left : List (List ℕ)
  pub rest : records name w p (suc n) next ls ≡ ok left
  pub text : text_from w p base rs ≡ line_text w p base l ++ text_from w p (line_base w p base l) left
  pub based : line_base w p base l ≤ next - p
  pub inside : line_base w p base l ≤ length w
  pub lies : idle w p l ≡ false → Lies w p base (length rs) l
  pub fewer : line_left w p (length rs) l ≡ length left

module _ (name w : List ℕ) (p base n from : ℕ) (l : List ℕ) (ls rs : List (List ℕ))
    (based : base ≤ from - p) (inside : base ≤ length w) where
  idles : idle w p l ≡ true → (next : ℕ) → from ≤ next → records name w p (suc n) next ls ≡ ok rs → Went name w p base n from l ls rs
  unfolding line_text line_base line_left
  idles e next m h =
      record {
        next = next;
        left = rs;
        rest = h;
        text = rw e;
        based = rw e (omega arith);
        inside = rw e inside;
        fewer = rw e;
        lies = λ (z : idle w p l ≡ false). absurd
            (let x : true ≡ false = sym e ∙ z in let y : ◌≡◌ {A = ℕ} 0 1 = cc in let u : ⊥ = omega arith in u);
      }

  module _ (plain : comment l ≡ false) (fits : fitting name w p from l ≡ true) where
    sound : is_record name l ≡ true
    unfolding fitting
    sound =
        and_left (is_record name l) (leb from (position l))
        (and_left (is_record name l && leb from (position l)) (passed_over w p l || agrees w p (position l) (reference l)) fits)

    late : from ≤ position l
    unfolding fitting
    late =
        leb-true from (position l)
        (and_right (is_record name l) (leb from (position l))
        (and_left (is_record name l && leb from (position l)) (passed_over w p l || agrees w p (position l) (reference l)) fits))

    few : length (alts l) ≤ 254
    unfolding is_record alternates_sound
    few =
        let own : List Variant = alternates (field l 4) in
        let a : Bool = leb 8 (length (pieces 0x09 l)) && same (field l 0) name && allele (field l 3) in
        let b : Bool = leb (length own) 254 && all allele own in
        rw (length-map own meant)
        (leb-true (length own) 254
        (and_left (leb (length own) 254) (all allele own) (and_right a b (and_left (a && b) (ltb 0 (position l)) sound))))

    stays : passed_over w p l ≡ true → records name w p (suc n) (behind l) ls ≡ ok rs → Went name w p base n from l ls rs
    unfolding idle
    stays e h = idles (rw (plain, e)) (behind l) (omega (arith, late)) h

    joins :
        passed_over w p l ≡ false → (rest : List (List ℕ)) → records name w p (suc n) (behind l) ls ≡ ok rest → rs ≡ l ∷ rest →
        Went name w p base n from l ls rs
    unfolding idle line_text line_base line_left text_from fitting
    joins e rest h k =
        let ag : agrees w p (position l) (reference l) ≡ true
        = rw e at (and_right (is_record name l && leb from (position l)) (passed_over w p l || agrees w p (position l) (reference l)) fits) in
        let a = agrees-inside w p (position l) (reference l) ag in
        let some : 0 < length rs = rw k (omega arith) in
        let there : Lies w p base (length rs) l =
        record { first = a.0; last = a.1; based = omega (arith, late); few = few; some = some } in
        record {
          next = behind l;
          left = rest;
          rest = h;
          text = rw (k, plain, e)
              (sym (append_assoc (gap w base (position l - p)) ((reference l ∷ alts l) ∷ []) (text_from w p (behind l - p) rest)));
          based = rw (plain, e) (omega arith);
          inside = rw (plain, e) (omega (arith, a));
          lies = λ (z : (comment l || passed_over w p l) ≡ false). there;
          fewer = rw (k, plain, e) (omega arith);
        }

  pub went : records name w p n from (l ∷ ls) ≡ ok rs → Went name w p base n from l ls rs
  unfolding records
  went h = cases (comment l) (passed_over w p l) refl refl h
    where
      cases : (b c : Bool) → comment l ≡ b → passed_over w p l ≡ c →
          cond b (records name w p (suc n) from ls)
          (demand (fitting name w p from l) 19 n (after (records name w p (suc n) (behind l) ls) λ xs. ok (cond c xs (l ∷ xs)))) ≡ ok rs →
          Went name w p base n from l ls rs
      cases true c e f h = idles (idle-comment w p base l e) from (omega arith) h
      cases false true e f h =
          let d = demand-met (fitting name w p from l) 19 n (after (records name w p (suc n) (behind l) ls) λ xs. ok xs) rs h in
          let m = after-met (records name w p (suc n) (behind l) ls) (λ xs. ok xs) rs d.1 in
          stays e d.0 f (m.1 ∙ m.2)
      cases false false e f h =
          let d = demand-met (fitting name w p from l) 19 n (after (records name w p (suc n) (behind l) ls) λ xs. ok (l ∷ xs)) rs h in
          let m = after-met (records name w p (suc n) (behind l) ls) (λ xs. ok (l ∷ xs)) rs d.1 in
          joins e d.0 f m.0 m.1 (sym (ok-inj m.2))

-- the loop over the lines: what stands from place `at` on adds the rest of the text, with that many records
pub record Putting (w : List ℕ) (p : ℕ) (file d out : List ℕ) (base place count at : ℕ) : Type 0 where
  pub put : placed w p ≡ true
  pub inside : at ≤ length file
  pub within : base ≤ length w
  pub name : List ℕ
  pub number : ℕ
  pub from : ℕ
  pub based : base ≤ from - p
  pub left : List (List ℕ)
  pub rest : records name w p number from (lines (drop at file)) ≡ ok left
  pub many : count ≡ length left
  pub emitted : Emitted d first_segment (bytes (window_text w p file)) out place (bytes (text_from w p base left))

module _ {w : List ℕ} {p : ℕ} {file : List ℕ} {start left segments room : ℕ} (r : Readable w p file start left segments room) where
  size : length (encode (window_text w p file)) ≡ first_segment + length (bytes (window_text w p file))
  unfolding encode word_bytes
  size = length-append (word_bytes (length (window_text w p file))) (bytes (window_text w p file))

  pub readable-room : first_segment ≤ room
  readable-room = omega (arith, size, r.fits)

  pub putting-none : (d : List ℕ) → length d ≡ room → Putting w p file d d 0 first_segment left start
  putting-none d e =
      record {
        put = r.put;
        inside = r.inside;
        within = omega arith;
        name = r.name;
        number = r.number;
        from = r.from;
        based = omega arith;
        left = touching w p (lines file);
        rest = r.accepted;
        many = r.many;
        emitted = emitted-none d first_segment (bytes (window_text w p file)) (omega (arith, size, r.fits));
      }

module _ {w : List ℕ} {p : ℕ} {file d out : List ℕ} {base place count at : ℕ} (h : Putting w p file d out base place count at) where
  pub putting-kept : length out ≡ length d
  putting-kept = emitted-length h.emitted

  -- where a record is left, there is a line
  pub putting-line : 0 < count → at < length file
  unfolding records
  putting-line l =
      by_cases (dec_lt at (length file)) (λ (m : at < length file). m)
      (λ (m : ¬ (at < length file)).
      let end : length file ≤ at = omega arith in
      let none : h.left ≡ [] = sym (ok-inj (rw (lines_none file at end) at h.rest)) in
      omega (arith, h.many, ap length none))

  module _ (some : 0 < count) {end : ℕ} (e : Ends 0x0A file at end) where
    l : at < length file
    l = putting-line some

    abbrev line : List ℕ
    line = part file at (end - at)

    went-here : Went h.name w p base h.number h.from line (lines (drop (next_line file end) file)) h.left
    went-here =
        went h.name w p base h.number h.from line (lines (drop (next_line file end) file)) h.left h.based h.within
        (rw (lines_next file at end l e) at h.rest)

    pub putting-placing : Placing w p base count line
    putting-placing = record { put = h.put; lies = rw h.many went-here.lies }

    rest-bytes :
        bytes (text_from w p base h.left) ≡ bytes (line_text w p base line) ++ bytes
        (text_from w p (line_base w p base line) went-here.left)
    rest-bytes =
        ap bytes went-here.text
        ∙ bytes-append encode_segment (line_text w p base line) (text_from w p (line_base w p base line) went-here.left)

    pub putting-room : place + length (bytes (line_text w p base line)) ≤ length out
    putting-room =
        omega (
          arith,
          emitted-room h.emitted,
          ap length rest-bytes,
          length-append (bytes (line_text w p base line)) (bytes (text_from w p (line_base w p base line) went-here.left)),
        )

    pub putting-more :
        (next count' base' place' : ℕ) (after : List ℕ) → next ≡ next_line file end → count' ≡ line_left w p count line → base'
        ≡ line_base w p base line →
        place' ≡ place + length (bytes (line_text w p base line)) → after ≡ over out place (bytes (line_text w p base line)) →
        Putting w p file d after base' place' count' next
    putting-more next count' base' place' after is c b q x =
        let g = went-here in
        let n = next-behind file at end l e in
        record {
          put = h.put;
          inside = omega (arith, n);
          within = omega (arith, g.inside);
          name = h.name;
          number = suc h.number;
          from = g.next;
          based = omega (arith, g.based);
          left = g.left;
          rest = rw is g.rest;
          many = c ∙ ap (λ (n : ℕ). line_left w p n line) h.many ∙ g.fewer;
          emitted = rw b (emitted-more h.emitted (bytes (line_text w p base line))
              (bytes (text_from w p (line_base w p base line) g.left)) rest-bytes x q);
        }

  module _ (done : count ≤ 0) where
    nothing_left : h.left ≡ []
    nothing_left = nothing-in h.left (omega (arith, h.many))

    abbrev pub last : List ℕ
    last = bytes (gap_of (take (length w - base) (drop base w)))

    last-bytes : bytes (text_from w p base h.left) ≡ last ++ []
    unfolding text_from
    last-bytes = rw (nothing_left, gap-of w base (length w) (omega arith)) (sym (append-nil last))

    pub last-room : place + length last ≤ length out
    last-room = omega (arith, emitted-room h.emitted, ap length (last-bytes ∙ append-nil last))

    pub putting-end :
        (entry : List ℕ) {start left segments : ℕ} (r : Readable w p file start left segments (length entry)) →
        d ≡ over entry 0 (word_bytes segments) → (after : List ℕ) → after ≡ over out place last →
        after ≡ over entry 0 (encode (window_text w p file))
    unfolding encode word_bytes
    putting-end entry {segments = segments} r f after x =
        let T : Text = window_text w p file in
        let whole : after ≡ over d first_segment (bytes T) = emitted-end (emitted-more h.emitted last [] last-bytes x refl) refl in
        let both : over (over entry 0 (word_bytes segments)) first_segment (bytes T) ≡ over entry 0 (word_bytes segments ++ bytes T)
        = over-over entry 0 (word_bytes segments) (readable-room r) (bytes T) in
        whole ∙ rw f (both ∙ rw r.count)
