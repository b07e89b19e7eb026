-- A row of calls that ends without trouble: what each call was, and where the sequences stand then.
use Prim.Native.Nat.{ℕ, suc, ◌+◌, ◌≤◌, ◌<◌, min}
use native.Mathlib.Omega.{arith}
use mathlib.Core.Path.{◌≡◌, refl, sym, ap, subst, ◌∙◌}
use mathlib.Core.Bool.{Bool, true, false, cond, true≢false}
use mathlib.Core.List.{List, [], ◌∷◌, map}
use lib.ListN.{length, take}
use Rattle.std.proofs.Common.{Option, Some, None, Result, Ok, Err, is_some}
use Rattle.text.specs.Text.{total}
use Rattle.text.specs.Refusal.{Outcome, ok, refused, after}
use Rattle.text.proofs.Outcomes.{after-after}
use Rattle.text.proofs.Strings.{same-eq}
use Rattle.layout.specs.Pieces.{most_in_stretch}
use Rattle.digest.specs.Blake2b.{blake2b256}
use Rattle.desk_verdict.specs.Standing.{plus, passing, stood, stands}
use Rattle.desk_verdict.specs.First.{halting, halts}
use Rattle.desk_verdict.specs.declared.standing.Standing.{Standing}
use Rattle.desk_verdict.proofs.Rows.{plus-cut}
use Rattle.desk_verdict.proofs.Theorems as Verdicts
use Rattle.desk_list.specs.Lines.{Sequence, sequences_of, most}
use Rattle.manifest.specs.Lines.{digest_at, entries_from, wrong_from, next_of}
use Rattle.manifest.specs.Written.{hex_of}
use Rattle.manifest.specs.Check.{vouches}
use Rattle.manifest.specs.declared.reading.Line.{Line}
use Rattle.manifest.specs.declared.reading.Stretch.{Stretch}
use Rattle.manifest.specs.declared.reading.Wrong.{Wrong}
use Rattle.manifest.proofs.Finding.{FoundSaid, Found, found}
use Rattle.desk_night.specs.Standings.{standing_at}
use Rattle.desk_night.specs.Sweep.{halted, passed, moved, swept}
use Rattle.desk_night.specs.Night.{segments_of, troubled, taken, place_of, overing, missing}
use Rattle.desk_night.specs.Ending.{says_stretch, is_stretch, is_left}
use Rattle.desk_night.specs.Events.{Event, handed, unread, night_after, Vouched}
use Rattle.desk_night.specs.declared.trouble.Trouble.{Trouble}
use Rattle.desk_night.specs.declared.night.Night.{Night}
use Rattle.desk_night.proofs.Nights.{NextIs, next-place, over-trouble, over-step}
use Rattle.desk_night.proofs.Rounds.{bases_at, Rounded, rounds}

-- one sequence after stretches, one after another
unfoldable pub moves : Bool → List ℕ → Standing → List (List ℕ) → Outcome Standing
moves first P x [] = ok x
moves first P x (s ∷ ss) = after (moved first P x s) λ y. moves first P y ss

after_same : {A B : Type 0} (o : Outcome A) (f g : A → Outcome B) → ((a : A) → f a ≡ g a) → after o f ≡ after o g
after_same (ok a) f g h = h a
after_same (refused n p) f g h = refl

-- as the search to all ends and the search to the first one tell it
pub moves-stands : (P : List ℕ) (x : Standing) (ss : List (List ℕ)) → moves false P x ss ≡ stands P x ss
unfolding moves moved passed stands
moves-stands P x [] = refl
moves-stands P x (s ∷ ss) =
    after-after (passing P x s most_in_stretch) (λ t. ok (stood P x t)) (λ y. moves false P y ss)
    ∙ after_same (passing P x s most_in_stretch) (λ t. moves false P (stood P x t) ss) (λ t. stands P (stood P x t) ss)
    (λ t. moves-stands P (stood P x t) ss)

pub moves-halts : (P : List ℕ) (x : Standing) (ss : List (List ℕ)) → moves true P x ss ≡ halts P x ss
unfolding moves moved halted halts
moves-halts P x [] = refl
moves-halts P x (s ∷ ss) =
    after-after (halting P x s) (λ h. ok h.standing) (λ y. moves true P y ss)
    ∙ after_same (halting P x s) (λ h. moves true P h.standing ss) (λ h. halts P h.standing ss) (λ h. moves-halts P h.standing ss)

-- the sequences that are searched for
abbrev pub sought : List ℕ → List Sequence
sought list = take most (sequences_of list)

-- a stretch that led to no trouble
pub record Went (list m s : List ℕ) (x : Night) : Type 0 where
  pub was : x.trouble ≡ None
  pub place : ℕ
  pub is : overing list m s x ≡ taken x list place s
  pub named : is_some x.text ≡ true → NextIs m s x place

-- what keeps a night from going on is its trouble
module _ (list m s : List ℕ) (x : Night) where
  pub went : (overing list m s x).trouble ≡ None → Went list m s x
  unfolding troubled
  went c = by x.trouble refl (place_of m s x) refl
    where
      by : (t : Option Trouble) → x.trouble ≡ t → (r : Result ℕ Trouble) → place_of m s x ≡ r → Went list m s x
      by None e (Ok at) f =
          record {
            was = e;
            place = at;
            is = sym (over-step list m s x (ap is_some e) refl f);
            named = λ v. next-place m s x v f;
          }
      by None e (Err t) f =
          let is : Some t ≡ (overing list m s x).trouble = ap (λ (y : Night). y.trouble) (over-step list m s x (ap is_some e) refl f) in
          absurd cc
      by (Some t) e r f =
          let is : x.trouble ≡ (overing list m s x).trouble = ap (λ (y : Night). y.trouble) (over-trouble list m s x (ap is_some e)) in
          absurd cc

-- what could not be read is a trouble
missing-some : (x : Night) → (missing x).trouble ≡ None → ⊥
unfolding missing troubled
missing-some x = go x.trouble refl
  where
    go : (t : Option Trouble) → x.trouble ≡ t → (cond (is_some t) x (troubled x Trouble.Unread)).trouble ≡ None → ⊥
    go None e c = absurd cc
    go (Some t) e c = absurd cc

module _ (list m : List ℕ) where
  -- a trouble stays
  stays : (es : List Event) (x : Night) → is_some x.trouble ≡ true → night_after list m x es ≡ x
  unfolding night_after missing
  stays [] x e = refl
  stays (handed s ∷ es) x e =
      ap (λ (y : Night). night_after list m y es) (sym (over-trouble list m s x e)) ∙ stays es x e
  stays (unread ∷ es) x e =
      let same : missing x ≡ x = rw e refl in
      ap (λ (y : Night). night_after list m y es) same ∙ stays es x e

  pub was-calm : (es : List Event) (x : Night) → (night_after list m x es).trouble ≡ None → x.trouble ≡ None
  was-calm es x c = go x.trouble refl
    where
      go : (t : Option Trouble) → x.trouble ≡ t → x.trouble ≡ None
      go None e = e
      go (Some t) e = sym (ap (λ (y : Night). y.trouble) (stays es x (ap is_some e))) ∙ c

-- the greatest number that a count reaches
abbrev pub cut : ℕ → ℕ
cut n = min n Verdicts.most

-- what a row of calls without trouble was, from x to y
pub record Ran (list m : List ℕ) (x y : Night) (es : List Event) : Type 0 where
  pub stretches : List (List ℕ)
  pub events : es ≡ map handed stretches
  pub count : y.count ≡ x.count
  pub text : y.text ≡ x.text
  pub each : (i : ℕ) → i < length (sought list)
      → moves x.first (bases_at (sought list) i) (standing_at x.standings i) stretches ≡ ok (standing_at y.standings i)
  pub named : is_some x.text ≡ true → wrong_from m x.at ≡ false → is_left m y.at ≡ false → Vouched (entries_from m x.at) stretches
  pub many : (a : ℕ) → x.stretches ≡ cut a → y.stretches ≡ cut (a + length stretches)
  pub segments : (a : ℕ) → x.segments ≡ cut a → y.segments ≡ cut (a + total segments_of stretches)
  pub bytes : (a : ℕ) → x.bytes ≡ cut a → y.bytes ≡ cut (a + total length stretches)

-- no stretch is left
none_said : (m : List ℕ) (at next : ℕ) (said : Result (Option Stretch) Wrong) → FoundSaid m at next said → wrong_from m at ≡ false
    → says_stretch said ≡ false → entries_from m at ≡ []
none_said m at next (Ok (Some name)) f right left = absurd (true≢false left)
none_said m at next (Ok None) f right left = absurd f
none_said m at next (Err wrong) f right left = absurd (true≢false (sym f ∙ right))

none_left : (m : List ℕ) (at : ℕ) (l : Option Line) → Found m at l → wrong_from m at ≡ false → is_stretch l ≡ false → entries_from m at ≡ []
none_left m at (Some line) f right left = none_said m at line.next line.said f right left
none_left m at None f right left = f.0

ran-none : (list m : List ℕ) (x : Night) → Ran list m x x []
unfolding is_left Vouched moves total
ran-none list m x =
    record {
      stretches = [];
      events = refl;
      count = refl;
      text = refl;
      each = λ i h. refl;
      named = λ v right left. rw (none_left m x.at (next_of m x.at) (found m x.at) right left) tt;
      many = λ a e. e ∙ (let z : cut a ≡ cut (a + 0) = omega arith in z);
      segments = λ a e. e ∙ (let z : cut a ≡ cut (a + 0) = omega arith in z);
      bytes = λ a e. e ∙ (let z : cut a ≡ cut (a + 0) = omega arith in z);
    }

-- a count after one more
count-on : (x a k : ℕ) → x ≡ cut a → plus x k ≡ cut (a + k)
count-on x a k e = ap (λ (c : ℕ). plus c k) e ∙ plus-cut a k

-- the digest of a stretch that is vouched for
own-digest : (m : List ℕ) (start : ℕ) (s : List ℕ) → vouches m start s ≡ true → digest_at m start ≡ hex_of (blake2b256 s)
unfolding vouches
own-digest m start s e = same-eq (digest_at m start) (hex_of (blake2b256 s)) e

module _ (list m s : List ℕ) (x : Night) (at : ℕ) (room : length (sought list) ≤ length x.standings)
    (c : (taken x list at s).trouble ≡ None) where
  -- each sequence over the stretch
  pub taken-each : Rounded x.first s 0 (sought list) (record { standings = x.standings; trouble = None })
      (swept x.first list s x.standings)
  unfolding taken swept
  taken-each =
      let fits : 0 + length (sought list) ≤ length x.standings = omega (arith, room) in
      rounds x.first s 0 (sought list) (record { standings = x.standings; trouble = None }) fits c

  pub taken-moved : (i : ℕ) → i < length (sought list)
      → moved x.first (bases_at (sought list) i) (standing_at x.standings i) s ≡ ok (standing_at (taken x list at s).standings i)
  unfolding taken
  taken-moved i l =
      let z : i ≡ 0 + i = omega arith in
      ap (λ (j : ℕ). moved x.first (bases_at (sought list) i) (standing_at x.standings j) s) z ∙ taken-each.each i l
      ∙ ap (λ (j : ℕ). ok (standing_at (swept x.first list s x.standings).standings j)) (sym z)

  pub taken-long : length (taken x list at s).standings ≡ length x.standings
  unfolding taken
  taken-long = taken-each.long

  module _ (named : is_some x.text ≡ true → NextIs m s x at) (y : Night) (es : List Event) (r : Ran list m (taken x list at s) y es) where
    named-on : is_some x.text ≡ true → wrong_from m x.at ≡ false → is_left m y.at ≡ false
        → Vouched (entries_from m x.at) (s ∷ r.stretches)
    unfolding taken Vouched
    named-on v right left =
        let n : NextIs m s x at = named v in
        let f : FoundSaid m x.at at (Ok (Some n.name)) = rw n.line at (found m x.at) in
        rw f.0 (own-digest m n.name.start s n.own, r.named v (sym f.1 ∙ right) left)

    ran-more : Ran list m x y (handed s ∷ es)
    unfolding taken moves total
    ran-more =
        record {
          stretches = s ∷ r.stretches;
          events = ap (λ (l : List Event). handed s ∷ l) r.events;
          count = r.count;
          text = r.text;
          each = λ i l. rw (taken-moved i l) (r.each i l);
          named = named-on;
          many = λ a e.
              let z : a + 1 + length r.stretches ≡ a + suc (length r.stretches) = omega arith in
              r.many (a + 1) (count-on x.stretches a 1 e) ∙ ap cut z;
          segments = λ a e.
              let k : ℕ = segments_of s in
              let z : a + k + total segments_of r.stretches ≡ a + (k + total segments_of r.stretches) = omega arith in
              r.segments (a + k) (count-on x.segments a k e) ∙ ap cut z;
          bytes = λ a e.
              let z : a + length s + total length r.stretches ≡ a + (length s + total length r.stretches) = omega arith in
              r.bytes (a + length s) (count-on x.bytes a (length s) e) ∙ ap cut z;
        }

module _ (list m : List ℕ) where
  -- whatever was called, if there is no trouble at the end
  pub ran : (es : List Event) (x : Night) → length (sought list) ≤ length x.standings → (night_after list m x es).trouble ≡ None
      → Ran list m x (night_after list m x es) es
  unfolding night_after
  ran [] x room c = ran-none list m x
  ran (handed s ∷ es) x room c =
      let w : Went list m s x = went list m s x (was-calm list m es (overing list m s x) c) in
      let y : Night = taken x list w.place s in
      let same : night_after list m (overing list m s x) es ≡ night_after list m y es =
      ap (λ (z : Night). night_after list m z es) w.is in
      let quiet : (night_after list m y es).trouble ≡ None = ap (λ (z : Night). z.trouble) (sym same) ∙ c in
      let here : y.trouble ≡ None = was-calm list m es y quiet in
      let long : length y.standings ≡ length x.standings = taken-long list m s x w.place room here in
      let rest : length (sought list) ≤ length y.standings = omega (arith, room, long) in
      subst (λ (z : Night). Ran list m x z (handed s ∷ es)) (sym same)
      (ran-more list m s x w.place room here w.named (night_after list m y es) es (ran es y rest quiet))
  ran (unread ∷ es) x room c = absurd (missing-some x (was-calm list m es (missing x) c))
