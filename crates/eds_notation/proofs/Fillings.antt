-- Laws of the buffers while they are filled: what each act comes to.
use Prim.Native.Nat.{ℕ, suc, ◌+◌, ◌-◌, ◌<◌, ◌≤◌}
use native.Mathlib.Numerals.{add-one}
use native.Mathlib.Omega.{arith}
use native.Mathlib.Decide.{dec_lt}
use mathlib.Core.Path.{◌≡◌, refl, sym, ap, ◌∙◌}
use mathlib.Core.Logic.{by_cases}
use mathlib.Core.Bool.{Bool, true, false, ◌&&◌}
use mathlib.Core.List.{List, ◌∷◌}
use Rattle.std.proofs.Common.{Ok, Err}
use lib.Dec.{leb, ltb}
use lib.ListN.{length, take, drop, get_or, set, length-take, length-drop, drop_of_length-le}
use lib.Seq.{drop-cons}
use borrow.Author.Tests.{eq-eqb, ne_eqb, le-leb, lt-leb, le-ltb, lt-ltb, leb-true, ltb-true}
use Rattle.text.proofs.Truth.{and_left, and_right, and-false, not-true-false}
use Rattle.layout.specs.Sizes.{text_bytes}
use Rattle.layout.specs.Bytes.{greatest_stretch, part}
use Rattle.eds_notation.specs.Notation.{Doing, act_of}
use Rattle.eds_notation.specs.Filling.{Stepped, tape_of, Buffers, buffers, stands, repeated, sound, fits, no_room, leads}
use Rattle.eds_notation.specs.Filling.{letter_step, end_fits, variant_step, segment_step, step_of, length_put, count_put, puts, if_done}
use Rattle.eds_notation.specs.Filling.{Came, came, on_from, read_on}
use Rattle.eds_notation.specs.declared.notation.Begun.{Begun}
use Rattle.eds_notation.specs.declared.notation.Act.TheVariants.{Pass, Letter, Variant, Segment}
use Rattle.eds_notation.specs.declared.wrong.Wrong.{Wrong}
use Rattle.eds_notation.specs.declared.filling.Tape.{Tape}
use Rattle.eds_notation.specs.declared.filling.Stop.{Stop}
use Rattle.eds_notation.specs.declared.filling.Stop.TheVariants.{Full}

-- what a tape that fits is
pub record Fitting (t : Tape) (more another : ℕ) : Type 0 where
  pub spelt : t.begun.spelt ≤ t.begun.letters
  pub letters : t.begun.letters ≤ t.letters
  pub lengths : t.begun.variants ≤ t.lengths
  pub variants : t.begun.variants ≤ 254
  pub bytes : text_bytes (t.letters + more) (t.lengths + 1 + another) (t.counts + 1) ≤ greatest_stretch

module _ (t : Tape) (more another : ℕ) where
  pub fits-is : fits t more another ≡ true → Fitting t more another
  unfolding fits sound
  fits-is e =
      let o = t.begun in
      let a : Bool = leb o.spelt o.letters in
      let b : Bool = leb o.letters t.letters in
      let c : Bool = leb o.variants t.lengths in
      let d : Bool = leb o.variants 254 in
      let n : ℕ = text_bytes (t.letters + more) (t.lengths + 1 + another) (t.counts + 1) in
      let four : (a && b && c && d) ≡ true = and_left (a && b && c && d) (leb n greatest_stretch) e in
      let three : (a && b && c) ≡ true = and_left (a && b && c) d four in
      let two : (a && b) ≡ true = and_left (a && b) c three in
      record {
        spelt = leb-true o.spelt o.letters (and_left a b two);
        letters = leb-true o.letters t.letters (and_right a b two);
        lengths = leb-true o.variants t.lengths (and_right (a && b) c three);
        variants = leb-true o.variants 254 (and_right (a && b && c) d four);
        bytes = leb-true n greatest_stretch (and_right (a && b && c && d) (leb n greatest_stretch) e);
      }

  pub fits_not : (Fitting t more another → ⊥) → false ≡ fits t more another
  fits_not h = sym (not-true-false (fits t more another) λ e. h (fits-is e))

  pub fits_last :
      t.begun.spelt ≤ t.begun.letters → t.begun.letters ≤ t.letters → t.begun.variants ≤ t.lengths → t.begun.variants ≤ 254 →
      (m a n : ℕ) → m ≡ more → a ≡ another → n ≡ text_bytes (t.letters + m) (t.lengths + 1 + a) (t.counts + 1) →
      leb n greatest_stretch ≡ fits t more another
  unfolding fits sound
  fits_last p q r s m a n e f g =
      rw (
        g,
        e,
        f,
        le-leb t.begun.spelt t.begun.letters p,
        le-leb t.begun.letters t.letters q,
        le-leb t.begun.variants t.lengths r,
        le-leb t.begun.variants 254 s,
      )

pub fitting-fits : {t : Tape} {more another : ℕ} → Fitting t more another → fits t more another ≡ true
fitting-fits {t} {more} {another} f =
    sym (fits_last t more another f.spelt f.letters f.lengths f.variants more another _ refl refl refl)
    ∙ le-leb (text_bytes (t.letters + more) (t.lengths + 1 + another) (t.counts + 1)) greatest_stretch f.bytes

-- there is no room
pub none-closed : (t : Tape) → t.counts ≡ 0 → Stop.Wrong Wrong.Long ≡ no_room t
unfolding no_room
none-closed t e = rw (eq-eqb t.counts 0 e)

pub some-closed : (t : Tape) → (t.counts ≡ 0 → ⊥) → Full ≡ no_room t
unfolding no_room
some-closed t e = rw (ne_eqb t.counts 0 e)

-- what each answer leaves, also where it is another call's
pub done-leaves : {A : Type 0} (u : Tape) (new old : A) → new ≡ if_done (Ok u) new old
unfolding if_done
done-leaves u new old = refl

pub stop-leaves : {A : Type 0} (stop : Stop) (new old : A) → old ≡ if_done (Err stop) new old
unfolding if_done
stop-leaves stop new old = refl

module _ {A : Type 0} (r : Stepped) (left new old : A) (p : left ≡ if_done r new old) where
  pub left_as : (s : Stepped) → r ≡ s → left ≡ if_done s new old
  left_as s e = rw e at p

  pub left-done : (w v : Tape) → r ≡ Ok w → left ≡ if_done (Ok v) new old
  unfolding if_done
  left-done w v e = let q : left ≡ if_done (Ok w) new old = rw e at p in q

-- one letter
module _ (t : Tape) (o : Begun) (size : ℕ) where
  pub letter-far : size ≤ t.letters → Err (no_room t) ≡ letter_step t o size
  unfolding letter_step
  letter-far l = rw (le-ltb t.letters size l)

  pub letter-full : fits t 1 0 ≡ false → Err (no_room t) ≡ letter_step t o size
  unfolding letter_step
  letter-full e = rw (e, and-false (ltb t.letters size))

  pub letter-done :
      t.letters < size → fits t 1 0 ≡ true → Ok (tape_of (t.letters + 1) t.lengths t.counts o) ≡ letter_step t o size
  unfolding letter_step
  letter-done l e = rw (e, lt-ltb t.letters size l)

-- the open part of a tape, as a slice hands it on
open-slice : (l : List ℕ) (n k : ℕ) → k ≤ n → take (n - (n - k)) (drop (n - k) l) ≡ part l (n - k) k
open-slice l n k le = let e : n - (n - k) ≡ k = omega arith in rw e

pub open-size :
    (t : Tape) (another : ℕ) (letters : List ℕ) → Fitting t 0 another → t.letters ≤ length letters →
    t.begun.spelt ≤ length (take (t.letters - (t.letters - t.begun.letters)) (drop (t.letters - t.begun.letters) letters))
open-size t another letters f l = simp (length-take, length-drop) (omega (arith, f.spelt, f.letters))

-- the end of a variant
module _ (t : Tape) (o : Begun) (another : ℕ) (letters lengths : List ℕ) where
  pub variant-far : length letters < t.letters → Err (no_room t) ≡ variant_step t o another letters lengths
  unfolding variant_step end_fits
  variant-far l = rw (lt-leb t.letters (length letters) l)

  pub variant-many : length lengths ≤ t.lengths → Err (no_room t) ≡ variant_step t o another letters lengths
  unfolding variant_step end_fits
  variant-many l = rw (le-ltb t.lengths (length lengths) l, and-false (leb t.letters (length letters)))

  pub variant-full : fits t 0 another ≡ false → Err (no_room t) ≡ variant_step t o another letters lengths
  unfolding variant_step end_fits
  variant-full e = rw (e, and-false (leb t.letters (length letters) && ltb t.lengths (length lengths)))

  module _ (a : t.letters ≤ length letters) (b : t.lengths < length lengths) (e : fits t 0 another ≡ true) where
    room : end_fits t another (length letters) (length lengths) ≡ true
    unfolding end_fits
    room = rw (le-leb t.letters (length letters) a, lt-ltb t.lengths (length lengths) b, e)

    -- whether it is repeated is asked of slices
    module _
        (again : Bool)
        (is : again ≡ stands (take (t.letters - (t.letters - t.begun.letters)) (drop (t.letters - t.begun.letters) letters))
        (take (t.lengths - (t.lengths - t.begun.variants)) (drop (t.lengths - t.begun.variants) lengths)) t.begun.spelt) where
      asked : again ≡ repeated t letters lengths
      asked =
          let f = fits-is t 0 another e in
          rw (
            open-slice letters t.letters t.begun.letters f.letters,
            open-slice lengths t.lengths t.begun.variants f.lengths,
          ) at is

      pub variant-repeated : again ≡ true → Err (Stop.Wrong Wrong.Repeated) ≡ variant_step t o another letters lengths
      unfolding variant_step
      variant-repeated y = let z : repeated t letters lengths ≡ true = sym asked ∙ y in rw (room, z)

      pub variant-done :
          again ≡ false → Ok (tape_of t.letters (t.lengths + 1) t.counts o) ≡ variant_step t o another letters lengths
      unfolding variant_step
      variant-done y = let z : repeated t letters lengths ≡ false = sym asked ∙ y in rw (room, z)

-- where an act leads
full-some : (t : Tape) → no_room t ≡ Full → 0 < t.counts
unfolding no_room
full-some t e =
    by_cases (dec_lt 0 t.counts) (λ (l : 0 < t.counts). l)
    (λ (l : ¬ (0 < t.counts)).
    let none : t.counts ≡ 0 = omega arith in
    let f : Stop.Wrong Wrong.Long ≡ Full = rw (eq-eqb t.counts 0 none) at e in
    let z : ◌≡◌ {A = ℕ} 0 1 = cc in
    absurd (let y : ⊥ = omega arith in y))

module _ (t : Tape) where
  leads-stop : (room again : Bool) (u v : Tape) (stop : Stop) → leads t room again u ≡ Err stop → Err stop ≡ leads t room again v
  leads-stop true true u v stop e = sym e
  leads-stop true false u v stop e = let z : ◌≡◌ {A = ℕ} 0 1 = cc in absurd (let y : ⊥ = omega arith in y)
  leads-stop false again u v stop e = sym e

  pub leads-done :
      (room again : Bool) (u v w : Tape) → leads t room again u ≡ Ok w →
      (w ≡ u) × (room ≡ true) × (Ok v ≡ leads t room again v)
  leads-done true true u v w e = let z : ◌≡◌ {A = ℕ} 0 1 = cc in absurd (let y : ⊥ = omega arith in y)
  leads-done true false u v w e = let f : w ≡ u = cc in (f, refl, refl)
  leads-done false again u v w e = let z : ◌≡◌ {A = ℕ} 0 1 = cc in absurd (let y : ⊥ = omega arith in y)

  pub leads-some : (room again : Bool) (u : Tape) → leads t room again u ≡ Err Full → 0 < t.counts
  leads-some true true u e = let z : ◌≡◌ {A = ℕ} 0 1 = cc in absurd (let y : ⊥ = omega arith in y)
  leads-some true false u e = let z : ◌≡◌ {A = ℕ} 0 1 = cc in absurd (let y : ⊥ = omega arith in y)
  leads-some false again u e = let f : no_room t ≡ Full = cc in full-some t f

pub end_fits_lem : (t : Tape) (another n m : ℕ) → end_fits t another n m ≡ true → (t.lengths < m) × Fitting t 0 another
unfolding end_fits
end_fits_lem t another n m e =
    let a : Bool = leb t.letters n in
    let b : Bool = ltb t.lengths m in (
      ltb-true t.lengths m (and_right a b (and_left (a && b) (fits t 0 another) e)),
      fits-is t 0 another (and_right (a && b) (fits t 0 another) e),
    )

-- the count of a segment's variants is a byte
pub segment-few :
    (t : Tape) (o : Begun) (another : ℕ) (letters lengths : List ℕ) (r : Stepped) → r ≡ variant_step t o another letters lengths →
    (w : Tape) → r ≡ Ok w → t.begun.variants ≤ 254
unfolding variant_step
segment-few t o another letters lengths r p w e =
    let f = leads-done t (end_fits t another (length letters) (length lengths)) (repeated t letters lengths) _ w w (sym p ∙ e) in
    (end_fits_lem t another (length letters) (length lengths) f.1).1.variants

-- a variant ends, then its segment
module _ (t : Tape) (o : Begun) (letters lengths counts : List ℕ) where
  pub segment-many : length counts ≤ t.counts → Err (no_room t) ≡ segment_step t o (buffers letters lengths counts)
  unfolding segment_step
  segment-many l = rw (le-ltb t.counts (length counts) l)

  module _ (r : Stepped) (p : r ≡ variant_step t o 0 letters lengths) (l : t.counts < length counts) where
    pub segment-stop : (stop : Stop) → r ≡ Err stop → Err stop ≡ segment_step t o (buffers letters lengths counts)
    unfolding variant_step segment_step
    segment-stop stop e =
        rw (lt-ltb t.counts (length counts) l)
        (leads-stop t (end_fits t 0 (length letters) (length lengths)) (repeated t letters lengths) _ _ stop (sym p ∙ e))

    pub segment-done :
        (w : Tape) → r ≡ Ok w →
        Ok (tape_of w.letters w.lengths (t.counts + 1) w.begun) ≡ segment_step t o (buffers letters lengths counts)
    unfolding variant_step segment_step
    segment-done w e =
        let v : Tape = tape_of t.letters (t.lengths + 1) (t.counts + 1) o in
        let f = leads-done t (end_fits t 0 (length letters) (length lengths)) (repeated t letters lengths) _ v w (sym p ∙ e) in
        ap (λ (k : Tape). Ok (tape_of k.letters k.lengths (t.counts + 1) k.begun)) f.0
        ∙ rw (lt-ltb t.counts (length counts) l) f.2

-- what is left of one buffer is left of all three
if-letters : (r : Stepped) (x y n c : List ℕ) → buffers (if_done r x y) n c ≡ if_done r (buffers x n c) (buffers y n c)
unfolding if_done
if-letters (Ok u) x y n c = refl
if-letters (Err stop) x y n c = refl

if-lengths : (r : Stepped) (l x y c : List ℕ) → buffers l (if_done r x y) c ≡ if_done r (buffers l x c) (buffers l y c)
unfolding if_done
if-lengths (Ok u) l x y c = refl
if-lengths (Err stop) l x y c = refl

if-both :
    (r : Stepped) (l x y p q : List ℕ) → buffers l (if_done r x y) (if_done r p q) ≡ if_done r (buffers l x p) (buffers l y q)
unfolding if_done
if-both (Ok u) l x y p q = refl
if-both (Err stop) l x y p q = refl

-- what an act comes to, and what it leaves in the buffers
abbrev pub Acted : Tape → Doing → ℕ → Buffers → Stepped → Buffers → Type 0
Acted t a x b r c = (r ≡ step_of t a b) × (c ≡ if_done r (puts t a x b) b)

module _ (t : Tape) (a : Doing) (x : ℕ) (o : Begun) (b : Buffers) where
  pub pass-acted : a ≡ Ok (Pass o) → Acted t a x b (Ok (tape_of t.letters t.lengths t.counts o)) b
  unfolding step_of puts if_done
  pass-acted e = (rw e refl, rw e refl)

  pub letter-acted :
      a ≡ Ok (Letter o) → (r : Stepped) (l : List ℕ) → r ≡ letter_step t o (length b.letters) →
      l ≡ if_done r (set b.letters t.letters x) b.letters → Acted t a x b r (buffers l b.lengths b.counts)
  unfolding step_of puts
  letter-acted e r l p q =
      (rw e p, rw (e, q) (if-letters r (set b.letters t.letters x) b.letters b.lengths b.counts))

  pub variant-acted :
      a ≡ Ok (Variant o) → (r : Stepped) (n : List ℕ) → r ≡ variant_step t o 1 b.letters b.lengths →
      n ≡ if_done r (length_put t b.lengths) b.lengths → Acted t a x b r (buffers b.letters n b.counts)
  unfolding step_of puts
  variant-acted e r n p q =
      (rw e p, rw (e, q) (if-lengths r b.letters (length_put t b.lengths) b.lengths b.counts))

  pub segment-acted :
      a ≡ Ok (Segment o) → (r : Stepped) (n c : List ℕ) → r ≡ segment_step t o b → n ≡ if_done r (length_put t b.lengths) b.lengths →
      c ≡ if_done r (count_put t b.counts) b.counts → Acted t a x b r (buffers b.letters n c)
  unfolding step_of puts
  segment-acted e r n c p q s =
      (rw e p, rw (e, q, s) (if-both r b.letters (length_put t b.lengths) b.lengths (count_put t b.counts) b.counts))

pub wrong-acted : (t : Tape) (a : Doing) (x : ℕ) (b : Buffers) (n : Wrong) → a ≡ Err n → Acted t a x b (Err (Stop.Wrong n)) b
unfolding step_of puts if_done
wrong-acted t a x b n e = (rw e refl, refl)

-- an act that is known otherwise
pub acted-as : (t : Tape) (a d : Doing) (x : ℕ) (b : Buffers) (r : Stepped) (c : Buffers) → a ≡ d → Acted t a x b r c → Acted t d x b r c
acted-as t a d x b r c e p = rw e at p

-- how far a piece is read: the rest of it comes to what the whole comes to
pub record Reaching (t : Tape) (piece : List ℕ) (from : ℕ) (b : Buffers) (u : Tape) (at : ℕ) (c : Buffers) : Type 0 where
  pub whole : read_on u c at (drop at piece) ≡ read_on t b from (drop from piece)
  pub same-letters : length c.letters ≡ length b.letters
  pub same-lengths : length c.lengths ≡ length b.lengths
  pub same-counts : length c.counts ≡ length b.counts

pub reach-none : (t : Tape) (piece : List ℕ) (from : ℕ) (b : Buffers) → Reaching t piece from b t from b
reach-none t piece from b = record { whole = refl; same-letters = refl; same-lengths = refl; same-counts = refl }

module _ {t : Tape} {piece : List ℕ} {from : ℕ} {b : Buffers} {u : Tape} {at : ℕ} {c : Buffers} (h : Reaching t piece from b u at c) where
  module _
      (inside : at < length piece) (a : Doing) (is : a ≡ act_of u.begun (get_or piece at 0)) (r : Stepped) (d : Buffers)
      (told : r ≡ step_of u a c) (left : d ≡ if_done r (puts u a (get_or piece at 0) c) c) where
    abbrev rest : Tape → Came
    rest v = read_on v (puts u a (get_or piece at 0) c) (at + 1) (drop (at + 1) piece)

    next : on_from r at u c rest ≡ read_on t b from (drop from piece)
    unfolding read_on
    next =
        let x : ℕ = get_or piece at 0 in
        let one : at + 1 ≡ suc at = add-one at in
        let split : drop at piece ≡ x ∷ drop (at + 1) piece = rw one (drop-cons piece at 0 inside) in
        let step : on_from (step_of u (act_of u.begun x) c) at u c
        (λ v. read_on v (puts u (act_of u.begun x) x c) (at + 1) (drop (at + 1) piece))
        ≡ read_on u c at (drop at piece) =
        ap (read_on u c at) (sym split) in
        ap (λ (k : Stepped). on_from k at u c rest) told
        ∙ ap (λ (k : Doing). on_from (step_of u k c) at u c (λ v. read_on v (puts u k x c) (at + 1) (drop (at + 1) piece))) is
        ∙ step
        ∙ h.whole

    pub reach-stop :
        (stop : Stop) → r ≡ Err stop → came (Err (record { at = at; tape = u; stop = stop })) d ≡ read_on t b from (drop from piece)
    unfolding if_done
    reach-stop stop e =
        let same : d ≡ c = rw e at left in
        ap (came (Err (record { at = at; tape = u; stop = stop }))) same ∙ rw e at next

    pub reach-more :
        (v : Tape) → r ≡ Ok v → length d.letters ≡ length c.letters → length d.lengths ≡ length c.lengths →
        length d.counts ≡ length c.counts → Reaching t piece from b v (at + 1) d
    unfolding if_done
    reach-more v e one two three =
        let same : d ≡ puts u a (get_or piece at 0) c = rw e at left in
        let on : rest v ≡ read_on t b from (drop from piece) = rw e at next in
        record {
          whole = ap (λ (k : Buffers). read_on v k (at + 1) (drop (at + 1) piece)) same ∙ on;
          same-letters = one ∙ h.same-letters;
          same-lengths = two ∙ h.same-lengths;
          same-counts = three ∙ h.same-counts;
        }

  pub reach-all : length piece ≤ at → came (Ok u) c ≡ read_on t b from (drop from piece)
  unfolding read_on
  reach-all l = rw (drop_of_length-le piece l) at h.whole
