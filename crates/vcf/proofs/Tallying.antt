-- Laws of tallies: one segment, one variant, one list of variants more.
use Prim.Native.Nat.{ℕ, suc, ◌+◌, ◌-◌, ◌<◌, ◌≤◌}
use native.Mathlib.Omega.{arith}
use native.Mathlib.Decide.{dec_lt}
use mathlib.Core.Path.{◌≡◌, refl, sym, ◌∙◌}
use mathlib.Core.Logic.{by_cases}
use mathlib.Core.Bool.{Bool, true, false, ◌||◌, cond}
use mathlib.Core.List.{List, [], ◌∷◌, ◌++◌, append_assoc}
use lib.Dec.{ltb}
use lib.ListN.{length, take, drop, length-take, length-drop, length-append}
use lib.Seq.{take_at, take-nil}
use borrow.Author.Tests.{lt-ltb, le-ltb, leb-true}
use Rattle.text.specs.Text.{Variant, Segment, Text}
use Rattle.text.specs.Bits.{any_of}
use Rattle.text.specs.Letter.{meant}
use Rattle.text.specs.Compare.{same, alike}
use Rattle.text.proofs.Likes.{meant-length}
use Rattle.text.proofs.Truth.{or-false}
use Rattle.layout.specs.Bytes.{greatest_stretch, part}
use Rattle.layout.specs.Reading.{among}
use Rattle.layout.specs.Sizes.{first_variant, first_letter}
use Rattle.layout.proofs.Raised.{part-meant, alike-part}
use Rattle.vcf.specs.Pieces.{pieces, end_of, Ends}
use Rattle.vcf.specs.Records.{none, alternates}
use Rattle.vcf.specs.Building.{gap}
use Rattle.std.proofs.Common.{Result, Ok, Err, IfOk}
use Rattle.text.specs.declared.refusal.Refusal.{Refusal}
use Rattle.vcf.specs.Tallies.{Tally, within, needs, too_long, counted, grown, segmented, opened, recounted, tallied, spaced, tally_in}
use Rattle.vcf.specs.Tallies.{tally_text, Sane}
use Rattle.vcf.specs.declared.survey.needed.Needed.{Needed}
use Rattle.vcf.proofs.Marks.{cut-next, cut-last}
use Rattle.vcf.proofs.Meant.{comma-ends, none-meant}

-- tallies stay sane
few-more : (v : Result ℕ Refusal) {b c : ℕ} → IfOk v (λ x. x ≤ b) → b ≤ c → IfOk v (λ x. x ≤ c)
few-more (Ok v) h l = omega arith
few-more (Err r) h l = tt

few-counted : (v : Result ℕ Refusal) (again : Bool) {b c : ℕ} → IfOk v (λ x. x ≤ b) → b < c → IfOk (counted v again) (λ x. x ≤ c)
few-counted (Ok v) true h l = tt
few-counted (Ok v) false h l = omega arith
few-counted (Err r) again h l = tt

pub sane-grown : (t : Tally) (n : ℕ) → Sane t → Sane (grown t n)
sane-grown (Ok t) n s = step (within (t.bytes + n)) (leb-true (t.bytes + n) greatest_stretch)
  where
    step :
        (r : Bool) → (r ≡ true → t.bytes + n ≤ greatest_stretch) → Sane (cond r (needs (t.bytes + n) t.segments t.variants) too_long)
    step true h = (omega arith, few-more t.variants s.1 (omega arith), h refl)
    step false h = tt
sane-grown (Err r) n s = tt

pub sane-opened : (t : Tally) → Sane t → Sane (opened t)
sane-opened (Ok t) s = step (within (t.bytes + first_variant)) (leb-true (t.bytes + first_variant) greatest_stretch)
  where
    step :
        (r : Bool) → (r ≡ true → t.bytes + first_variant ≤ greatest_stretch) →
        Sane (segmented (cond r (needs (t.bytes + first_variant) t.segments t.variants) too_long))
    step true h = (omega arith, few-more t.variants s.1 (omega arith), h refl)
    step false h = tt
sane-opened (Err r) s = tt

pub sane-tallied : (t : Tally) (n : ℕ) (again : Bool) → Sane t → Sane (tallied t n again)
sane-tallied (Ok t) n again s = begun (within (t.bytes + first_letter))
  where
    whole :
        (r : Bool) → (r ≡ true → t.bytes + first_letter + n ≤ greatest_stretch) →
        Sane (recounted (cond r (needs (t.bytes + first_letter + n) t.segments t.variants) too_long) again)
    whole true h = (omega arith, few-counted t.variants again s.1 (omega arith), h refl)
    whole false h = tt

    begun : (r : Bool) → Sane (recounted (grown (cond r (needs (t.bytes + first_letter) t.segments t.variants) too_long) n) again)
    begun true = whole (within (t.bytes + first_letter + n)) (leb-true (t.bytes + first_letter + n) greatest_stretch)
    begun false = tt
sane-tallied (Err r) n again s = tt

pub sane-in : (g : Segment) (t : Tally) (seen : Segment) → Sane t → Sane (tally_in t seen g)
unfolding tally_in
sane-in [] t seen s = s
sane-in (v ∷ g) t seen s = sane-in g (tallied t (length v) (among v seen)) (seen ++ (v ∷ [])) (sane-tallied t (length v) (among v seen) s)

-- what is too long stays so
pub err-in : (r : Refusal) (seen g : Segment) → tally_in (Err r) seen g ≡ Err r
unfolding tally_in
err-in r seen [] = refl
err-in r seen (v ∷ g) = err-in r (seen ++ (v ∷ [])) g

pub tally-err : {t : Tally} {r : Refusal} (seen g : Segment) → t ≡ Err r → Err r ≡ tally_in t seen g
tally-err {t} {r} seen g e = rw e (sym (err-in r seen g))

pub sane-is : {t : Tally} {n : Needed} → t ≡ Ok n → Sane t → Sane (Ok n)
sane-is e s = rw e at s

-- bases between records
pub gap-none : (t : Tally) (n : ℕ) → n ≡ 0 → t ≡ spaced t n
gap-none t n e = rw e

pub gap-some : (t u r : Tally) (n : ℕ) → (n ≡ 0 → ⊥) → u ≡ opened t → r ≡ tallied u n false → r ≡ spaced t n
gap-some t u r n m e f = rw (lt-ltb 0 n (omega (arith, m)), ← e) f

pub spaced-err : (r : Refusal) (n : ℕ) → spaced (Err r) n ≡ Err r
spaced-err r n = step (ltb 0 n)
  where
    step : (b : Bool) → cond b (tallied (opened (Err r)) n false) (Err r) ≡ Err r
    step true = refl
    step false = refl

-- they are a segment of the text
pub gap-tally :
    (t : Tally) (w : List ℕ) (a b : ℕ) → b ≤ length w → tally_text t (gap w a b) ≡ spaced t (b - a)
unfolding gap tally_text tally_in among any_of
gap-tally t w a b l =
    by_cases (dec_lt a b)
    (λ (m : a < b).
    let size : length (part w a (b - a)) ≡ b - a = simp (length-take, length-drop) (omega arith) in
    rw (lt-ltb a b m, lt-ltb 0 (b - a) (omega arith), size))
    (λ (m : ¬ (a < b)).
    let z : b - a ≡ 0 = omega arith in
    rw (le-ltb a b (omega arith), z))

pub tally-append : (T U : Text) (t : Tally) → tally_text t (T ++ U) ≡ tally_text (tally_text t T) U
unfolding tally_text
tally-append [] U t = refl
tally-append (g ∷ T) U t = tally-append T U (tally_in (opened t) [] g)

pub sane-text : (T : Text) (t : Tally) → Sane t → Sane (tally_text t T)
unfolding tally_text
sane-text [] t s = s
sane-text (g ∷ T) t s = sane-text T (tally_in (opened t) [] g) (sane-in g (opened t) [] (sane-opened t s))

-- the segment of a record
module _ (t : Tally) (ref a : List ℕ) (u : Tally) (e : u ≡ tallied (opened t) (length ref) false) where
  pub record-none : none a ≡ true → u ≡ tally_in (opened t) [] (meant ref ∷ alternates (meant a))
  unfolding tally_in alternates among any_of
  record-none n = rw (none-meant a, n, meant-length ref) e

  pub record-err : {r : Refusal} → u ≡ Err r → Err r ≡ tally_in (opened t) [] (meant ref ∷ alternates (meant a))
  unfolding tally_in among any_of
  record-err {r} f = sym (err-in r (meant ref ∷ []) (alternates (meant a))) ∙ rw (← f, e, ← meant-length ref)

  pub record-some :
      none a ≡ false → (r : Tally) → r ≡ tally_in u (meant ref ∷ []) (pieces 0x2C (meant a)) →
      r ≡ tally_in (opened t) [] (meant ref ∷ alternates (meant a))
  unfolding tally_in alternates among any_of
  record-some n r f = rw (none-meant a, n) (f ∙ rw (e, ← meant-length ref))

-- an allele is compared with REF, then with the first k of ALT, by what they mean
pub among_first : (v ref : Variant) (l : Segment) → alike v ref ≡ true → true ≡ among (meant v) (meant ref ∷ l)
unfolding among any_of alike
among_first v ref l e = rw e

pub among-rest : (v ref : Variant) (l : Segment) → alike v ref ≡ false → among (meant v) (meant ref ∷ l) ≡ among (meant v) l
unfolding among any_of alike
among-rest v ref l e = rw e

pub record Compared (v a : List ℕ) (k from i : ℕ) : Type 0 where
  pub inside : from ≤ length a
  pub most : i ≤ k
  pub rest : among (meant v) (take k (pieces 0x2C (meant a))) ≡ among (meant v) (take (k - i) (pieces 0x2C (drop from (meant a))))

pub compared-none : (v a : List ℕ) (k : ℕ) → Compared v a k 0 0
compared-none v a k = let e : k - 0 ≡ k = omega arith in record { inside = omega arith; most = omega arith; rest = rw e }

left_one : (i k : ℕ) → i < k → k - i ≡ suc (k - (i + 1))
left_one i k l = omega arith

module _ {v a : List ℕ} {k from i : ℕ} (h : Compared v a k from i) where
  module _ (l : i < k) {end : ℕ} (e : Ends 0x2C a from end) where
    abbrev here : List ℕ
    here = part a from (end - from)

    ends : Ends 0x2C (meant a) from end
    ends = comma-ends e

    told : (b : Bool) → alike v here ≡ b → same (meant v) (part (meant a) from (end - from)) ≡ b
    told b t = sym (alike-part v a from (end - from)) ∙ t

    compared-next : (b : Bool) → alike v here ≡ b → (end ≡ length a → ⊥) →
        among (meant v) (take k (pieces 0x2C (meant a))) ≡
        (b || among (meant v) (take (k - (i + 1)) (pieces 0x2C (drop (end + 1) (meant a)))))
    unfolding among any_of
    compared-next b t n =
        let m : end_of 0x2C (meant a) from < length (meant a) = omega (arith, n, ends, meant-length a) in
        h.rest ∙ rw (left_one i k l, cut-next 0x2C (meant a) from ([] ∷ []) m, ← ends.is, told b t)

    compared-last : (b : Bool) → alike v here ≡ b → end ≡ length a → among (meant v) (take k (pieces 0x2C (meant a))) ≡ b
    unfolding among any_of
    compared-last b t m =
        let n : end_of 0x2C (meant a) from ≡ length (meant a) = omega (arith, ends, meant-length a) in
        let inside : from ≤ length (meant a) = omega (arith, ends) in
        h.rest
        ∙ rw (left_one i k l, cut-last 0x2C (meant a) from inside n, ← ends.is, told b t, take-nil {A = List ℕ} (k - (i + 1))) (or-false b)

    pub compared_same : alike v here ≡ true → among (meant v) (take k (pieces 0x2C (meant a))) ≡ true
    compared_same t =
        by_cases (dec_lt end (length a))
        (λ (m : end < length a). compared-next true t (λ (z : end ≡ length a). omega arith))
        (λ (m : ¬ (end < length a)). compared-last true t (omega arith))

    pub compared-missing : alike v here ≡ false → end ≡ length a → among (meant v) (take k (pieces 0x2C (meant a))) ≡ false
    compared-missing t m = compared-last false t m

    pub compared-more : alike v here ≡ false → (end ≡ length a → ⊥) → Compared v a k (end + 1) (i + 1)
    compared-more t n = record { inside = omega (arith, n); most = omega arith; rest = compared-next false t n }

  pub compared-end : k ≤ i → among (meant v) (take k (pieces 0x2C (meant a))) ≡ false
  unfolding among any_of
  compared-end l = let z : k - i ≡ 0 = omega arith in h.rest ∙ rw z

-- the alleles of ALT are tallied after REF: the first k of them are, and the others come next
pub record Behind (t₀ : Tally) (ref a : List ℕ) (t : Tally) (from k : ℕ) : Type 0 where
  pub inside : from ≤ length a
  pub few : k ≤ from
  pub sane : Sane t
  pub seen : Segment
  pub count : length seen ≡ k
  pub are : pieces 0x2C (meant a) ≡ seen ++ pieces 0x2C (drop from (meant a))
  pub rest : tally_in t₀ (meant ref ∷ []) (pieces 0x2C (meant a)) ≡ tally_in t (meant ref ∷ seen) (pieces 0x2C (drop from (meant a)))

pub behind-none : (t : Tally) (ref a : List ℕ) → Sane t → Behind t ref a t 0 0
behind-none t ref a s =
    record { inside = omega arith; few = omega arith; sane = s; seen = []; count = refl; are = refl; rest = refl }

module _ {t₀ : Tally} {ref a : List ℕ} {t : Tally} {from k end : ℕ} (h : Behind t₀ ref a t from k) (e : Ends 0x2C a from end)
    {again : Bool} (f : again ≡ among (meant (part a from (end - from))) (meant ref ∷ take k (pieces 0x2C (meant a))))
    {u : Tally} (g : u ≡ tallied t (length (part a from (end - from))) again) where
  next-end : Ends 0x2C (meant a) from end
  next-end = comma-ends e

  -- the next allele
  abbrev own : Variant
  own = part (meant a) from (end - from)

  is-own : meant (part a from (end - from)) ≡ own
  is-own = part-meant a from (end - from)

  before : again ≡ among own (meant ref ∷ h.seen)
  before =
      let s : take k (pieces 0x2C (meant a)) ≡ h.seen = rw h.are (take_at h.seen (pieces 0x2C (drop from (meant a))) k h.count) in
      f ∙ rw (is-own, s)

  next : u ≡ tallied t (length own) (among own (meant ref ∷ h.seen))
  next = g ∙ rw (← meant-length (part a from (end - from)), is-own, before)

  pub behind_more : (end ≡ length a → ⊥) → Behind t₀ ref a u (end + 1) (k + 1)
  unfolding tally_in
  behind_more n =
      let m : end_of 0x2C (meant a) from < length (meant a) = omega (arith, n, next-end, meant-length a) in
      let rest : Segment = pieces 0x2C (drop (end + 1) (meant a)) in
      let more : pieces 0x2C (drop from (meant a)) ≡ own ∷ rest = rw next-end.is (cut-next 0x2C (meant a) from ([] ∷ []) m) in
      record {
        inside = omega (arith, n);
        few = omega arith;
        sane = rw g (sane-tallied t (length (part a from (end - from))) again h.sane);
        seen = h.seen ++ (own ∷ []);
        count = omega (arith, length-append h.seen (own ∷ []), h.count);
        are = h.are ∙ rw more (sym (append_assoc h.seen (own ∷ []) rest));
        rest = h.rest ∙ rw (more, next);
      }

  pub behind-end : end ≡ length a → u ≡ tally_in t₀ (meant ref ∷ []) (pieces 0x2C (meant a))
  unfolding tally_in
  behind-end m =
      let n : end_of 0x2C (meant a) from ≡ length (meant a) = omega (arith, next-end, meant-length a) in
      let inside : from ≤ length (meant a) = omega (arith, next-end) in
      let more : pieces 0x2C (drop from (meant a)) ≡ own ∷ [] = rw next-end.is (cut-last 0x2C (meant a) from inside n) in
      sym (h.rest ∙ rw (more, ← next))

  pub behind-err : {r : Refusal} → u ≡ Err r → Err r ≡ tally_in t₀ (meant ref ∷ []) (pieces 0x2C (meant a))
  unfolding tally_in
  behind-err {r} z =
      by_cases (dec_lt end (length a))
      (λ (l : end < length a).
      let m : end_of 0x2C (meant a) from < length (meant a) = omega (arith, next-end, meant-length a) in
      let rest : Segment = pieces 0x2C (drop (end + 1) (meant a)) in
      let more : pieces 0x2C (drop from (meant a)) ≡ own ∷ rest = rw next-end.is (cut-next 0x2C (meant a) from ([] ∷ []) m) in
      let last : tally_in u (meant ref ∷ (h.seen ++ (own ∷ []))) rest ≡ Err r = rw z (err-in r (meant ref ∷ (h.seen ++ (own ∷ []))) rest) in
      let own' = rw next at last in
      sym (h.rest ∙ rw more own'))
      (λ (l : ¬ (end < length a)). sym z ∙ behind-end (omega (arith, e.inside, h.inside)))

pub sane-gap : (t : Tally) (n : ℕ) → Sane t → Sane (spaced t n)
sane-gap t n s = step (ltb 0 n)
  where
    step : (b : Bool) → Sane (cond b (tallied (opened t) n false) t)
    step true = sane-tallied (opened t) n false (sane-opened t s)
    step false = s
