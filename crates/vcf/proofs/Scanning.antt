-- Laws of the first pass: what one line does, and how the lines left say what the whole file says.
use Prim.Native.Nat.{ℕ, suc, ◌+◌, ◌-◌, ◌<◌, ◌≤◌, min}
use native.Mathlib.Numerals.{add-one}
use native.Mathlib.Omega.{arith}
use mathlib.Core.Path.{◌≡◌, refl, sym, ap, ◌∙◌}
use mathlib.Core.Bool.{Bool, true, false, ◌||◌, ◌&&◌, cond}
use mathlib.Core.List.{List, [], ◌∷◌, ◌++◌, append_assoc, append-nil}
use lib.Dec.{eqb, leb, ltb}
use lib.ListN.{length, drop, length-append}
use borrow.Author.Tests.{le-leb, lt-leb, leb-true, ltb-true, eqb-true}
use Rattle.text.specs.Refusal.{Outcome, ok, refused, after, outcome}
use Rattle.text.proofs.Outcomes.{ok-inj, after-after}
use Rattle.text.proofs.Truth.{and_left, and_right}
use Rattle.text.specs.Letter.{letter, meant, every}
use Rattle.text.proofs.Likes.{meant-length}
use Rattle.text.specs.Compare.{same}
use Rattle.layout.specs.Bytes.{part}
use Rattle.vcf.specs.Pieces.{pieces, lines, Ends, next_line}
use Rattle.vcf.specs.Records.{allele, alternates_sound, beyond, field, position, reference, alts, alternates, behind}
use Rattle.vcf.specs.Records.{is_record, outside, agrees, passed_over, comment, fitting, records}
use Rattle.vcf.specs.Records.{placed}
use Rattle.vcf.specs.Building.{gap, text_from}
use Rattle.vcf.specs.Tallies.{Tally, nothing, opened, spaced, tally_in, tally_text}
use Rattle.vcf.specs.Steps.{over_record, behind_record, line_step, Reach, Starting, scan_from, scanning}
use Rattle.vcf.specs.declared.survey.needed.Needed.{Needed}
use Rattle.vcf.specs.declared.survey.scan.Reached.{Reached}
use Rattle.std.proofs.Common.{None, Some, Ok, Err}
use Rattle.text.specs.declared.refusal.Refusal.{Refusal}
use Rattle.vcf.proofs.Marks.{lines_next, lines_none, next-behind}
use Rattle.vcf.proofs.Meant.{alternates-meant}
use Rattle.vcf.proofs.Digits.{position-small}
use Rattle.vcf.proofs.Windows.{same-leb, placed-small, outside-capped, outside-some, agrees-inside}
use Rattle.vcf.proofs.Tallying.{gap-tally, spaced-err, tally-append, sane-opened, sane-in, sane-text}

module _ (name w : List ℕ) (p : ℕ) (s : Reached) (l : List ℕ) where
  pub step-comment : comment l ≡ true → Some s ≡ line_step name w p s l
  unfolding line_step
  step-comment e = rw e

  module _ (plain : comment l ≡ false) where
    step-wrong : fitting name w p s.from l ≡ false → None ≡ line_step name w p s l
    unfolding line_step
    step-wrong e = rw (plain, e)

    pub step-unsound : is_record name l ≡ false → None ≡ line_step name w p s l
    unfolding fitting
    step-unsound e = step-wrong (rw e)

    module _ (r : ℕ) (found : (is_record name l ≡ true) × (position l ≡ r)) where
      sound : is_record name l ≡ true
      sound = found.0

      at : position l ≡ r
      at = found.1

      pub step-early : r < s.from → None ≡ line_step name w p s l
      unfolding fitting
      step-early m = step-wrong (rw (sound, at, lt-leb s.from r m))

      module _ (late : s.from ≤ r) (ref : List ℕ) (refd : ref ≡ reference l) (put : placed w p ≡ true)
          (end : ℕ) (ends : end ≡ min beyond (r + length ref)) where
        ending : end ≡ min beyond (behind l)
        ending = ends ∙ rw (refd, at)

        module _ (b : Bool) (out : b ≡ outside w p r end) where
          over : passed_over w p l ≡ b
          over = sym (out ∙ rw (← at, ending) (outside-capped w p (position l) (behind l) put))

          fit : (c : Bool) → c ≡ agrees w p r ref → fitting name w p s.from l ≡ (b || c)
          unfolding fitting
          fit c e = rw (sound, over, le-leb s.from (position l) (omega (arith, at))) (ap (λ (x : Bool). b || x) (rw (at, ← refd, e)))

        pub step-over : true ≡ outside w p r end → Some (record { from = end; base = s.base; kept = s.kept; needed = s.needed })
            ≡ line_step name w p s l
        unfolding line_step
        step-over out = rw (plain, fit true out (agrees w p r ref) refl, over true out, ending)

        module _ (out : false ≡ outside w p r end) where
          pub step-apart : false ≡ agrees w p r ref → None ≡ line_step name w p s l
          step-apart e = step-wrong (fit false out false e)

          module _ (e : true ≡ agrees w p r ref) where
            lies : (p ≤ r) × (r + length ref ≤ p + length w)
            lies = agrees-inside w p r ref (sym e)

            small : p + length w ≤ 2147483648
            small = placed-small w p put (outside-some w p r end (sym out))

            pub step-bounds : s.base ≤ s.from - p → (p ≤ r) × (s.base ≤ r - p) × (p ≤ end)
            step-bounds h = (lies.0, omega (arith, lies), omega (arith, lies, small))

            pub step_in :
                (alt : List ℕ) → alt ≡ meant (field l 4) → (u : Tally) →
                u ≡ tally_in (opened (spaced s.needed (r - p - s.base))) [] (ref ∷ alternates alt) →
                Some (record { from = end; base = end - p; kept = s.kept + 1; needed = u }) ≡ line_step name w p s l
            unfolding line_step
            step_in alt a u g =
                let whole : end ≡ behind l =
                ending ∙ (let h : min beyond (behind l) ≡ behind l = omega (arith, lies, small, at, ap length refd) in h) in
                let room : r - p ≤ length w = omega (arith, lies) in
                let gapped : spaced s.needed (r - p - s.base) ≡ tally_text s.needed (gap w s.base (r - p)) =
                sym (gap-tally s.needed w s.base (r - p) room) in
                let told : u ≡ tally_in (opened (tally_text s.needed (gap w s.base (position l - p)))) [] (reference l ∷ alts l) =
                g ∙ rw (gapped, refd, a, at, alternates-meant (field l 4)) in
                let based : end - p ≡ behind l - p = ap (λ (x : ℕ). x - p) whole in
                rw (plain, fit false out true e, over false out, told, based, ending)

-- the same answer goes on in the same way
after_same : {A B : Type 0} (o : Outcome A) (f g : A → Outcome B) → ((a : A) → f a ≡ g a) → after o f ≡ after o g
after_same (ok a) f g h = h a
after_same (refused n p) f g h = refl

pub nothing-in : {A : Type 0} (l : List A) → length l ≡ 0 → l ≡ []
nothing-in [] e = refl
nothing-in (a ∷ l) e = absurd (let z : ⊥ = omega arith in z)

after-ok : {A : Type 0} (o : Outcome A) → after o (λ a. ok a) ≡ o
after-ok (ok a) = refl
after-ok (refused n p) = refl

-- REF has a letter
some-reference : (name l : List ℕ) → is_record name l ≡ true → 0 < length (reference l)
unfolding is_record allele
some-reference name l e =
    let eight : Bool = leb 8 (length (pieces 0x09 l)) && same (field l 0) name in
    let own : Bool = ltb 0 (length (field l 3)) && every letter (field l 3) in
    let front = and_left (eight && own) (alternates_sound (field l 4))
    (and_left (eight && own && alternates_sound (field l 4)) (ltb 0 (position l)) e) in
    let h : 0 < length (field l 3) =
    ltb-true 0 (length (field l 3)) (and_left (ltb 0 (length (field l 3))) (every letter (field l 3)) (and_right eight own front)) in
    rw (meant-length (field l 3)) h

-- a record is asked for a position that is cut at one after every position
fitting-capped : (name w : List ℕ) (p from g : ℕ) (l : List ℕ) → from ≡ min beyond g → fitting name w p g l ≡ fitting name w p from l
unfolding fitting
fitting-capped name w p from g l e =
    rw (same-leb g (position l) from (position l)
    (λ (h : g ≤ position l). omega arith)
    (λ (h : from ≤ position l). omega (arith, position-small (field l 1))))

module _ (name w : List ℕ) (p : ℕ) (s : Reached) (l : List ℕ) (n g : ℕ) (capped : s.from ≡ min beyond g) (ls : List (List ℕ)) where
  abbrev whole : Outcome Needed
  whole = scan_from name w p n g s.base s.needed (l ∷ ls)

  turn-comment : comment l ≡ true → whole ≡ scan_from name w p (suc n) g s.base s.needed ls
  unfolding scan_from records
  turn-comment e = rw e

  module _ (plain : comment l ≡ false) where
    turn-wrong : fitting name w p s.from l ≡ false → whole ≡ refused 19 n
    unfolding scan_from records
    turn-wrong e = rw (plain, fitting-capped name w p s.from g l capped, e)

    module _ (fits : fitting name w p s.from l ≡ true) where
      abbrev rest : Outcome (List (List ℕ))
      rest = records name w p (suc n) (behind l) ls

      abbrev tell : List (List ℕ) → Outcome Needed
      tell rs = outcome (tally_text s.needed (text_from w p s.base rs))

      turn-over : passed_over w p l ≡ true → whole ≡ scan_from name w p (suc n) (behind l) s.base s.needed ls
      unfolding scan_from records
      turn-over e = rw (plain, fitting-capped name w p s.from g l capped, fits, e) (after-after rest (λ rs. ok rs) tell)

      turn_in :
          passed_over w p l ≡ false →
          whole ≡ scan_from name w p (suc n) (behind l) (behind l - p) (behind_record w p s l).needed ls
      unfolding scan_from records text_from tally_text
      turn_in e =
          rw (plain, fitting-capped name w p s.from g l capped, fits, e)
          (after-after rest (λ rs. ok (l ∷ rs)) tell
          ∙ after_same rest (λ rs. tell (l ∷ rs)) (λ rs. outcome (tally_text (behind_record w p s l).needed (text_from w p (behind l - p) rs)))
          (λ rs. ap outcome (tally-append (gap w s.base (position l - p)) ((reference l ∷ alts l) ∷ text_from w p (behind l - p) rs)
          s.needed)))

  -- what a line that passes adds to the records
  more-comment : comment l ≡ true → records name w p n g (l ∷ ls) ≡ after (records name w p (suc n) g ls) λ rs. ok rs
  unfolding records
  more-comment e = rw e (sym (after-ok (records name w p (suc n) g ls)))

  module _ (plain : comment l ≡ false) (fits : fitting name w p s.from l ≡ true) where
    more-over : passed_over w p l ≡ true → records name w p n g (l ∷ ls) ≡ after (records name w p (suc n) (behind l) ls) λ rs. ok rs
    unfolding records
    more-over e = rw (plain, fitting-capped name w p s.from g l capped, fits, e)

    more-in : passed_over w p l ≡ false → records name w p n g (l ∷ ls) ≡ after (records name w p (suc n) (behind l) ls) λ rs. ok (l ∷ rs)
    unfolding records
    more-in e = rw (plain, fitting-capped name w p s.from g l capped, fits, e)

  -- what is left after a line that passes
  pub record Behind (s' : Reached) : Type 0 where
    pub from : ℕ
    pub cut : s'.from ≡ min beyond from
    pub reach : Reach w p s'
    pub rest : whole ≡ scan_from name w p (suc n) from s'.base s'.needed ls
    pub own : List (List ℕ)
    pub counted : s'.kept ≡ s.kept + length own
    pub more : records name w p n g (l ∷ ls) ≡ after (records name w p (suc n) from ls) λ rs. ok (own ++ rs)

  module _ (fits : fitting name w p s.from l ≡ true) where
    late : s.from ≤ position l
    unfolding fitting
    late =
        leb-true s.from (position l)
        (and_right (is_record name l) (leb s.from (position l))
        (and_left (is_record name l && leb s.from (position l)) (passed_over w p l || agrees w p (position l) (reference l)) fits))

    recorded : is_record name l ≡ true
    unfolding fitting
    recorded =
        and_left (is_record name l) (leb s.from (position l))
        (and_left (is_record name l && leb s.from (position l)) (passed_over w p l || agrees w p (position l) (reference l)) fits)

    agreed : passed_over w p l ≡ false → agrees w p (position l) (reference l) ≡ true
    unfolding fitting
    agreed e =
        let h : (passed_over w p l || agrees w p (position l) (reference l)) ≡ true
        = and_right (is_record name l && leb s.from (position l)) (passed_over w p l || agrees w p (position l) (reference l)) fits in
        rw e at h

    over-reach : Reach w p s → Reach w p (over_record s l)
    over-reach r =
        record {
          put = r.put;
          sane = r.sane;
          passed = omega
              (arith, late, position-small (field l 1), r.passed);
          inside = r.inside;
          few = r.few;
        }

    in_reach : Reach w p s → passed_over w p l ≡ false → Reach w p (behind_record w p s l)
    in_reach r e =
        let lies = agrees-inside w p (position l) (reference l) (agreed e) in
        let small : p + length w ≤ 2147483648 = placed-small w p r.put (outside-some w p (position l) (behind l) e) in
        let g : List (List ℕ) = reference l ∷ alts l in
        let T = gap w s.base (position l - p) in
        record {
          put = r.put;
          sane = sane-in g (opened (tally_text s.needed T)) [] (sane-opened (tally_text s.needed T) (sane-text T s.needed r.sane));
          passed = omega (arith, lies, small);
          inside = omega (arith, lies);
          few = omega (arith, lies, late, r.few, r.passed, some-reference name l recorded);
        }

  pub line-wrong : line_step name w p s l ≡ None → whole ≡ refused 19 n
  unfolding line_step
  line-wrong e = cases (comment l) (fitting name w p s.from l) refl refl
    where
      cases : (b c : Bool) → comment l ≡ b → fitting name w p s.from l ≡ c → whole ≡ refused 19 n
      cases true c h k = let z : Some s ≡ None = sym (rw h) ∙ e in absurd (let x : ◌≡◌ {A = ℕ} 0 1 = cc in let y : ⊥ = omega arith in y)
      cases false false h k = turn-wrong h k
      cases false true h k =
          let t : Reached = cond (passed_over w p l) (over_record s l) (behind_record w p s l) in
          let z : Some t ≡ None = sym (rw (h, k)) ∙ e in
          absurd (let x : ◌≡◌ {A = ℕ} 0 1 = cc in let y : ⊥ = omega arith in y)

  pub line-passed : (s' : Reached) → Reach w p s → line_step name w p s l ≡ Some s' → Behind s'
  unfolding line_step
  line-passed s' r e = cases (comment l) (fitting name w p s.from l) (passed_over w p l) refl refl refl
    where
      cases : (b c d : Bool) → comment l ≡ b → fitting name w p s.from l ≡ c → passed_over w p l ≡ d → Behind s'
      cases true c d h k m =
          let z : Some s ≡ Some s' = sym (rw h) ∙ e in
          let y : s ≡ s' = cc in
          rw (← y) record {
            from = g;
            cut = capped;
            reach = r;
            rest = turn-comment h;
            own = [];
            counted = omega arith;
            more =
                more-comment h;
          }
      cases false false d h k m =
          let z : None ≡ Some s' = sym (rw (h, k)) ∙ e in
          absurd (let x : ◌≡◌ {A = ℕ} 0 1 = cc in let y : ⊥ = omega arith in y)
      cases false true true h k m =
          let z : Some (over_record s l) ≡ Some s' = sym (rw (h, k, m)) ∙ e in
          let y : over_record s l ≡ s' = cc in
          rw (← y) record {
            from = behind l;
            cut = refl;
            reach = over-reach k r;
            rest = turn-over h k m;
            own = [];
            counted =
                omega arith;
            more = more-over h k m;
          }
      cases false true false h k m =
          let z : Some (behind_record w p s l) ≡ Some s' = sym (rw (h, k, m)) ∙ e in
          let y : behind_record w p s l ≡ s' = cc in
          rw (← y) record {
            from = behind l;
            cut = refl;
            reach = in_reach k r m;
            rest = turn_in h k m;
            own = l ∷ [];
            counted = refl;
            more =
                more-in h k m;
          }

-- the loop over the lines: that many are passed, and those from place `at` on say what the whole file says; those before `start` held no
-- record in the window
pub record Scanning (name w : List ℕ) (p : ℕ) (file : List ℕ) (at start passed : ℕ) (s : Reached) : Type 0 where
  pub inside : at ≤ length file
  pub few : passed ≤ at
  pub reach : Reach w p s
  pub from : ℕ
  pub cut : s.from ≡ min beyond from
  pub rest : scanning name w p file ≡ scan_from name w p (suc passed) from s.base s.needed (lines (drop at file))
  pub seen : List (List ℕ)
  pub counted : s.kept ≡ length seen
  pub more : records name w p 1 0 (lines file) ≡ after (records name w p (suc passed) from (lines (drop at file))) λ rs. ok (seen ++ rs)
  pub within : start ≤ length file
  pub number : ℕ
  pub position : ℕ
  pub begins : records name w p 1 0 (lines file) ≡ records name w p number position (lines (drop start file))

pub scanning-none :
    (name w : List ℕ) (p : ℕ) (file : List ℕ) → placed w p ≡ true →
    Scanning name w p file 0 0 0 (record { from = 0; base = 0; kept = 0; needed = nothing })
unfolding scanning
scanning-none name w p file e =
    record {
      inside = omega arith;
      few = omega arith;
      reach = record {
        put = e;
        sane = (omega arith, omega arith, omega arith);
        passed = omega arith;
        inside = omega arith;
        few = omega arith;
      };
      from = 0;
      cut = omega arith;
      rest = refl;
      seen = [];
      counted = refl;
      more = sym (after-ok (records name w p 1 0 (lines file)));
      within = omega arith;
      number = 1;
      position = 0;
      begins = refl;
    }

module _ {name w : List ℕ} {p : ℕ} {file : List ℕ} {at start passed : ℕ} {s : Reached} (h : Scanning name w p file at start passed s) where
  module _ (l : at < length file) {end : ℕ} (e : Ends 0x0A file at end) where
    abbrev line : List ℕ
    line = part file at (end - at)

    abbrev left : List (List ℕ)
    left = lines (drop (next_line file end) file)

    here : scanning name w p file ≡ scan_from name w p (suc passed) h.from s.base s.needed (line ∷ left)
    here = h.rest ∙ rw (lines_next file at end l e)

    pub scanning-wrong : line_step name w p s line ≡ None → refused 19 (passed + 1) ≡ scanning name w p file
    scanning-wrong k = rw add-one (sym (here ∙ line-wrong name w p s line (suc passed) h.from h.cut left k))

    module _ (s' : Reached) (k : line_step name w p s line ≡ Some s') where
      passes : Behind name w p s line (suc passed) h.from h.cut left s'
      passes = line-passed name w p s line (suc passed) h.from h.cut left s' h.reach k

      -- what was seen, and what this line adds
      abbrev seen' : List (List ℕ)
      seen' = h.seen ++ passes.own

      abbrev behind' : Outcome (List (List ℕ))
      behind' = records name w p (suc (suc passed)) passes.from left

      more' : records name w p 1 0 (lines file) ≡ after behind' λ rs. ok (seen' ++ rs)
      more' =
          h.more ∙ rw (lines_next file at end l e, passes.more)
          (after-after behind' (λ rs. ok (passes.own ++ rs)) (λ rs. ok (h.seen ++ rs))
          ∙ after_same behind' (λ rs. ok (h.seen ++ (passes.own ++ rs))) (λ rs. ok (seen' ++ rs))
          (λ rs. ap ok (sym (append_assoc h.seen passes.own rs))))

      counted' : s'.kept ≡ length seen'
      counted' = omega (arith, passes.counted, h.counted, length-append h.seen passes.own)

      -- the next line begins at `next`; as long as no record is seen, the lines that matter start there
      module _ (next : ℕ) (is : next ≡ next_line file end) where
        bounds : (at < next) × (next ≤ length file)
        bounds = rw is (next-behind file at end l e)

        begins' :
            (b : Bool) → eqb s'.kept 0 ≡ b → (start' : ℕ) → start' ≡ cond b next start → Scanning name w p file next start'
            (passed + 1) s'
        begins' true none start' t =
            let z : length seen' ≡ 0 = sym counted' ∙ eqb-true s'.kept 0 none in
            let y : records name w p 1 0 (lines file) ≡ behind' = more' ∙ rw (nothing-in seen' z) (after-ok behind') in
            record {
              inside = bounds.1;
              few = omega (arith, bounds, h.few);
              reach = passes.reach;
              from = passes.from;
              cut = passes.cut;
              rest = rw (is, add-one) (here ∙ passes.rest);
              seen = seen';
              counted = counted';
              more = rw (is, add-one) more';
              within = rw t bounds.1;
              number = suc (suc passed);
              position = passes.from;
              begins = rw (t, is) y;
            }
        begins' false some start' t =
            record {
              inside = bounds.1;
              few = omega (arith, bounds, h.few);
              reach = passes.reach;
              from = passes.from;
              cut = passes.cut;
              rest = rw (is, add-one) (here ∙ passes.rest);
              seen = seen';
              counted = counted';
              more = rw (is, add-one) more';
              within = rw t h.within;
              number = h.number;
              position = h.position;
              begins = rw t h.begins;
            }

        pub scanning-more : (start' : ℕ) → start' ≡ cond (eqb s'.kept 0) next start → Scanning name w p file next start' (passed + 1) s'
        scanning-more start' t = begins' (eqb s'.kept 0) refl start' t

  module _ (l : length file ≤ at) where
    pub scanning-end :
        (t : Tally) → t ≡ spaced s.needed (length w - s.base) → outcome t ≡ scanning name w p file
    unfolding scan_from records text_from
    scanning-end t e =
        let g : t ≡ tally_text s.needed (gap w s.base (length w)) =
        e ∙ sym (gap-tally s.needed w s.base (length w) (omega arith)) in
        sym (h.rest ∙ rw (lines_none file at l, g))

    pub scanning-refused : {r : Refusal} → spaced s.needed (length w - s.base) ≡ Err r → refused r.number r.place ≡ scanning name w p file
    scanning-refused {r} e = scanning-end (Err r) (sym e)

    pub scanning-long : {r : Refusal} → s.needed ≡ Err r → refused r.number r.place ≡ scanning name w p file
    scanning-long {r} e = scanning-refused (rw e (spaced-err r (length w - s.base)))

    pub scanning-needs : {t : Needed} → spaced s.needed (length w - s.base) ≡ Ok t → ok t ≡ scanning name w p file
    scanning-needs {t} e = scanning-end (Ok t) (sym e)

    pub scanning-starts : Starting name w p file start s.kept
    unfolding records
    scanning-starts =
        let all : records name w p 1 0 (lines file) ≡ ok h.seen = h.more ∙ rw (lines_none file at l, append-nil h.seen) in
        record {
          inside = h.within;
          number = h.number;
          from = h.position;
          begins = h.begins;
          count = λ rs e. h.counted ∙ ap length (ok-inj (sym all ∙ e));
        }
