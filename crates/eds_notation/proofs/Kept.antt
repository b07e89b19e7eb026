-- What is kept while a text is read: what the buffers hold, with what the rest of the text puts after it, stays what it was.
use Prim.Native.Nat.{ℕ, suc, ◌+◌, ◌<◌, ◌≤◌}
use native.Mathlib.Numerals.{add-one}
use native.Mathlib.Omega.{arith}
use mathlib.Core.Path.{◌≡◌, refl, sym, ap, ◌∙◌}
use mathlib.Core.Bool.{Bool, true, false, ◌&&◌}
use mathlib.Core.List.{List, [], ◌∷◌, ◌++◌, append_assoc}
use Rattle.std.proofs.Common.{Result, Ok, Err}
use lib.Dec.{ltb}
use lib.ListN.{length, take, drop, get_or, set, length-set, length-drop}
use lib.Seq.{take-suc-set, drop-cons}
use borrow.Author.Tests.{ltb-true}
use Rattle.text.proofs.Truth.{and_left, and_right}
use Rattle.eds_notation.specs.Notation.{Doing, act_of}
use Rattle.eds_notation.specs.Reading.{Read, onto, rests, acted, reads}
use Rattle.eds_notation.specs.Filling.{Stepped, tape_of, Buffers, fits, repeated, end_fits, letter_step, variant_step, segment_step, step_of, puts}
use Rattle.eds_notation.specs.Filling.{Came, came, on_from, read_on}
use Rattle.eds_notation.specs.declared.notation.Begun.{Begun}
use Rattle.eds_notation.specs.declared.notation.Act.TheVariants.{Pass, Letter, Variant, Segment}
use Rattle.eds_notation.specs.declared.filling.Tape.{Tape}
use Rattle.eds_notation.specs.declared.filling.Stop.TheVariants.{Full}
use Rattle.eds_notation.specs.declared.filling.Halt.{Halt}
use Rattle.eds_notation.proofs.Fillings.{leads-done, leads-some, end_fits_lem}

-- what the buffers hold of a tape, before what is still to come
abbrev pub held_in : Tape → Buffers → Read → Read
held_in t b r = onto (take t.letters b.letters) (take t.lengths b.lengths) (take t.counts b.counts) r

-- what the buffers hold, and what the piece puts from `at` on, is what it was at `from`
abbrev pub Keeps : Tape → List ℕ → ℕ → Buffers → Tape → ℕ → Buffers → Type 0
Keeps t piece from b u at c = held_in u c (reads u.begun (drop at piece)) ≡ held_in t b (reads t.begun (drop from piece))

-- the byte at `at` comes to this step
abbrev pub Meets : Tape → List ℕ → ℕ → Buffers → Stepped → Type 0
Meets u piece at c r = step_of u (act_of u.begun (get_or piece at 0)) c ≡ r

-- nothing is lost, put twice or put elsewhere, wherever the reading stops: all before the byte at `at` is put, and this byte comes to a stop
unfoldable pub PieceKept : Tape → List ℕ → ℕ → Buffers → Result Tape Halt → Buffers → Type 0
PieceKept t piece from b (Ok u) c = held_in u c (rests u.begun 0) ≡ held_in t b (reads t.begun (drop from piece))
PieceKept t piece from b (Err h) c = Keeps t piece from b h.tape h.at c × Meets h.tape piece h.at c (Err h.stop)

-- what an act that is done leads to, and the room that it had
abbrev Room : Tape → Doing → Buffers → Tape → Type 0
Room t (Ok (Pass o)) b u = u ≡ tape_of t.letters t.lengths t.counts o
Room t (Ok (Letter o)) b u = (u ≡ tape_of (t.letters + 1) t.lengths t.counts o) × (t.letters < length b.letters)
Room t (Ok (Variant o)) b u = (u ≡ tape_of t.letters (t.lengths + 1) t.counts o) × (t.lengths < length b.lengths)
Room t (Ok (Segment o)) b u =
    (u ≡ tape_of t.letters (t.lengths + 1) (t.counts + 1) o)
    × (t.lengths < length b.lengths)
    × (t.counts < length b.counts)
Room t (Err n) b u = ⊥

room_of : (t : Tape) (a : Doing) (b : Buffers) (u : Tape) → step_of t a b ≡ Ok u → Room t a b u
unfolding step_of letter_step variant_step segment_step
room_of t (Ok (Pass o)) b u e = cc
room_of t (Ok (Letter o)) b u e =
    let room : Bool = ltb t.letters (length b.letters) in
    let v : Tape = tape_of (t.letters + 1) t.lengths t.counts o in
    let f = leads-done t (room && fits t 1 0) false v v u e in
    (f.0, ltb-true t.letters (length b.letters) (and_left room (fits t 1 0) f.1))
room_of t (Ok (Variant o)) b u e =
    let n : ℕ = length b.letters in
    let m : ℕ = length b.lengths in
    let v : Tape = tape_of t.letters (t.lengths + 1) t.counts o in
    let f = leads-done t (end_fits t 1 n m) (repeated t b.letters b.lengths) v v u e in
    (f.0, (end_fits_lem t 1 n m f.1).0)
room_of t (Ok (Segment o)) b u e =
    let n : ℕ = length b.letters in
    let m : ℕ = length b.lengths in
    let k : ℕ = length b.counts in
    let v : Tape = tape_of t.letters (t.lengths + 1) (t.counts + 1) o in
    let f = leads-done t (ltb t.counts k && end_fits t 0 n m) (repeated t b.letters b.lengths) v v u e in
    let w : end_fits t 0 n m ≡ true = and_right (ltb t.counts k) (end_fits t 0 n m) f.1 in
    (f.0, (end_fits_lem t 0 n m w).0, ltb-true t.counts k (and_left (ltb t.counts k) (end_fits t 0 n m) f.1))
room_of t (Err n) b u e = let z : ◌≡◌ {A = ℕ} 0 1 = cc in omega arith

-- without a closed segment no act is told to be full
pub full-closed : (t : Tape) (a : Doing) (b : Buffers) → step_of t a b ≡ Err Full → 0 < t.counts
unfolding step_of letter_step variant_step segment_step
full-closed t (Ok (Pass o)) b e = let z : ◌≡◌ {A = ℕ} 0 1 = cc in absurd (let y : ⊥ = omega arith in y)
full-closed t (Ok (Letter o)) b e =
    leads-some t (ltb t.letters (length b.letters) && fits t 1 0) false (tape_of (t.letters + 1) t.lengths t.counts o) e
full-closed t (Ok (Variant o)) b e =
    leads-some t (end_fits t 1 (length b.letters) (length b.lengths)) (repeated t b.letters b.lengths)
    (tape_of t.letters (t.lengths + 1) t.counts o) e
full-closed t (Ok (Segment o)) b e =
    leads-some t (ltb t.counts (length b.counts) && end_fits t 0 (length b.letters) (length b.lengths))
    (repeated t b.letters b.lengths) (tape_of t.letters (t.lengths + 1) (t.counts + 1) o) e
full-closed t (Err n) b e = let z : ◌≡◌ {A = ℕ} 0 1 = cc in absurd (let y : ⊥ = omega arith in y)

-- one member more before what comes after
more : (l : List ℕ) (n x : ℕ) (rest : List ℕ) → n < length l → take (n + 1) (set l n x) ++ rest ≡ take n l ++ ((x ∷ []) ++ rest)
more l n x rest k =
    let one : n + 1 ≡ suc n = add-one n in
    rw one (ap (λ (f : List ℕ). f ++ rest) (take-suc-set l n x k) ∙ append_assoc (take n l) (x ∷ []) rest)

module _ (t : Tape) (b : Buffers) (r : Read) where
  -- the same, with other lists for what is held
  abbrev holding : List ℕ → List ℕ → List ℕ → Read
  holding letters lengths counts =
      record { letters = letters; lengths = lengths; counts = counts; begun = r.begun; wrong = r.wrong }

  held-letter :
      (x : ℕ) → t.letters < length b.letters →
      onto (take (t.letters + 1) (set b.letters t.letters x)) (take t.lengths b.lengths) (take t.counts b.counts) r
      ≡ held_in t b (onto (x ∷ []) [] [] r)
  held-letter x k =
      ap (λ (l : List ℕ). holding l (take t.lengths b.lengths ++ r.lengths) (take t.counts b.counts ++ r.counts))
      (more b.letters t.letters x r.letters k)

  held-variant :
      (n : ℕ) → t.lengths < length b.lengths →
      onto (take t.letters b.letters) (take (t.lengths + 1) (set b.lengths t.lengths n)) (take t.counts b.counts) r
      ≡ held_in t b (onto [] (n ∷ []) [] r)
  held-variant n k =
      ap (λ (l : List ℕ). holding (take t.letters b.letters ++ r.letters) l (take t.counts b.counts ++ r.counts))
      (more b.lengths t.lengths n r.lengths k)

  held-segment :
      (n m : ℕ) → t.lengths < length b.lengths → t.counts < length b.counts →
      onto (take t.letters b.letters) (take (t.lengths + 1) (set b.lengths t.lengths n))
      (take (t.counts + 1) (set b.counts t.counts m)) r
      ≡ held_in t b (onto [] (n ∷ []) (m ∷ []) r)
  held-segment n m k j =
      λ i. holding (take t.letters b.letters ++ r.letters) (more b.lengths t.lengths n r.lengths k i)
      (more b.counts t.counts m r.counts j i)

-- an act that is done puts what the notation says, whatever comes after
done-kept :
    (t : Tape) (a : Doing) (x : ℕ) (b : Buffers) (u : Tape) → Room t a b u → (f : Begun → Read) →
    held_in u (puts t a x b) (f u.begun) ≡ held_in t b (acted t.begun x a f)
unfolding puts
done-kept t (Ok (Pass o)) x b u e f = rw e
done-kept t (Ok (Letter o)) x b u e f = rw e.0 (held-letter t b (f o) x e.1)
done-kept t (Ok (Variant o)) x b u e f = rw e.0 (held-variant t b (f o) t.begun.spelt e.1)
done-kept t (Ok (Segment o)) x b u e f = rw e.0 (held-segment t b (f o) t.begun.spelt (t.begun.variants + 1) e.1 e.2)
done-kept t (Err n) x b u e f = absurd e

-- what is filled lies within the buffers
pub record Inside (t : Tape) (b : Buffers) : Type 0 where
  pub letters-in : t.letters ≤ length b.letters
  pub lengths-in : t.lengths ≤ length b.lengths
  pub counts-in : t.counts ≤ length b.counts

done-inside : (t : Tape) (a : Doing) (x : ℕ) (b : Buffers) (u : Tape) → Room t a b u → Inside t b → Inside u (puts t a x b)
unfolding puts
done-inside t (Ok (Pass o)) x b u e i = rw e (record { letters-in = i.letters-in; lengths-in = i.lengths-in; counts-in = i.counts-in })
done-inside t (Ok (Letter o)) x b u e i =
    let l : t.letters < length b.letters = e.1 in
    let p : t.letters + 1 ≤ length (set b.letters t.letters x) = simp length-set (omega arith) in
    rw e.0 (record { letters-in = p; lengths-in = i.lengths-in; counts-in = i.counts-in })
done-inside t (Ok (Variant o)) x b u e i =
    let l : t.lengths < length b.lengths = e.1 in
    let p : t.lengths + 1 ≤ length (set b.lengths t.lengths t.begun.spelt) = simp length-set (omega arith) in
    rw e.0 (record { letters-in = i.letters-in; lengths-in = p; counts-in = i.counts-in })
done-inside t (Ok (Segment o)) x b u e i =
    let l : t.lengths < length b.lengths = e.1 in
    let k : t.counts < length b.counts = e.2 in
    let p : t.lengths + 1 ≤ length (set b.lengths t.lengths t.begun.spelt) = simp length-set (omega arith) in
    let q : t.counts + 1 ≤ length (set b.counts t.counts (t.begun.variants + 1)) = simp length-set (omega arith) in
    rw e.0 (record { letters-in = i.letters-in; lengths-in = p; counts-in = q })
done-inside t (Err n) x b u e i = absurd e

-- what is kept from the next byte on is kept from this one on
kept-before :
    (piece : List ℕ) (t : Tape) (at : ℕ) (b : Buffers) (u : Tape) (next : ℕ) (c : Buffers) →
    held_in u c (reads u.begun (drop next piece)) ≡ held_in t b (reads t.begun (drop at piece)) →
    (r : Result Tape Halt) (d : Buffers) → PieceKept u piece next c r d → PieceKept t piece at b r d
unfolding PieceKept
kept-before piece t at b u next c e (Ok v) d k = k ∙ e
kept-before piece t at b u next c e (Err h) d k = (k.0 ∙ e, k.1)

-- what is read from place `at` on
module _ (piece : List ℕ) where
  -- a byte, then the rest
  abbrev From : Tape → ℕ → Buffers → Came → Type 0
  From t at b x = PieceKept t piece at b x.told x.left

  step_kept :
      (t : Tape) (at : ℕ) (b : Buffers) → at < length piece → (r : Stepped) (x : ℕ) → x ≡ get_or piece at 0 →
      (rest : Tape → Came) → step_of t (act_of t.begun x) b ≡ r →
      ((u : Tape) → r ≡ Ok u → From u (at + 1) (puts t (act_of t.begun x) x b) (rest u)) → From t at b (on_from r at t b rest)
  unfolding PieceKept reads
  step_kept t at b l (Ok u) x is rest e h =
      let one : at + 1 ≡ suc at = add-one at in
      let a : Doing = act_of t.begun x in
      let c : Buffers = puts t a x b in
      let split : drop at piece ≡ x ∷ drop (at + 1) piece = rw (one, is) (drop-cons piece at 0 l) in
      let put : held_in u c (reads u.begun (drop (at + 1) piece)) ≡ held_in t b (reads t.begun (x ∷ drop (at + 1) piece)) =
      done-kept t a x b u (room_of t a b u e) (λ o. reads o (drop (at + 1) piece)) in
      let on : held_in u c (reads u.begun (drop (at + 1) piece)) ≡ held_in t b (reads t.begun (drop at piece)) = rw split put in
      kept-before piece t at b u (at + 1) c on (rest u).told (rest u).left (h u refl)
  step_kept t at b l (Err stop) x is rest e h = (refl, rw is at e)

  pub read_kept : (s : List ℕ) (t : Tape) (at : ℕ) (b : Buffers) → drop at piece ≡ s → From t at b (read_on t b at s)
  unfolding read_on PieceKept reads
  read_kept [] t at b e = rw e
  read_kept (x ∷ s) t at b e =
      let size : length (drop at piece) ≡ suc (length s) = ap length e in
      let l : at < length piece = omega (arith, length-drop at piece) in
      let split : x ∷ s ≡ get_or piece at 0 ∷ drop (suc at) piece = sym e ∙ drop-cons piece at 0 l in
      let first : x ≡ get_or piece at 0 = cc in
      let tail : drop (suc at) piece ≡ s = cc in
      let one : at + 1 ≡ suc at = add-one at in
      let a : Doing = act_of t.begun x in
      let rest : drop (at + 1) piece ≡ s = rw one tail in
      step_kept t at b l (step_of t a b) x first (λ u. read_on u (puts t a x b) (at + 1) s) refl
      (λ u h. read_kept s u (at + 1) (puts t a x b) rest)

-- what is read stays within the buffers
onward :
    (r : Stepped) (t : Tape) (at : ℕ) (b : Buffers) (rest : Tape → Came) (v : Tape) (d : Buffers) →
    on_from r at t b rest ≡ came (Ok v) d → ((u : Tape) → r ≡ Ok u → rest u ≡ came (Ok v) d → Inside v d) → Inside v d
onward (Ok u) t at b rest v d e h = h u refl e
onward (Err stop) t at b rest v d e h =
    let f : ◌≡◌ {A = Result Tape Halt} (Err (record { at = at; tape = t; stop = stop })) (Ok v) = ap (λ (k : Came). k.told) e in
    let z : ◌≡◌ {A = ℕ} 0 1 = cc in
    absurd (let y : ⊥ = omega arith in y)

pub read-inside :
    (s : List ℕ) (t : Tape) (at : ℕ) (b : Buffers) (v : Tape) (d : Buffers) → Inside t b → read_on t b at s ≡ came (Ok v) d → Inside v d
unfolding read_on
read-inside [] t at b v d i e =
    let f : Ok t ≡ Ok v = ap (λ (k : Came). k.told) e in
    let g : t ≡ v = cc in
    let h : b ≡ d = ap (λ (k : Came). k.left) e in
    rw (g, h) at i
read-inside (x ∷ s) t at b v d i e =
    let a : Doing = act_of t.begun x in
    let c : Buffers = puts t a x b in
    onward (step_of t a b) t at b (λ u. read_on u c (at + 1) s) v d e
    (λ u r f. read-inside s u (at + 1) c v d (done-inside t a x b u (room_of t a b u r) i) f)
