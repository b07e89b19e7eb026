-- Laws of rows: the union of exits over a state, what a row makes of what follows it, and the rows of a card as a list.
use Prim.Native.Nat.{ℕ, zero, suc, ◌+◌, ◌^◌, ◌≤◌, ◌<◌, min}
use native.Mathlib.Omega.{arith}
use native.Mathlib.Nat.{min-eq_left, min-eq_right}
use borrow.Author.Tests.{lt-ltb, le-ltb, eqb-true}
use mathlib.Core.Path.{◌≡◌, refl, sym, ap, ◌∙◌, subst}
use mathlib.Core.Logic.{◌↔◌, by_cases}
use mathlib.Core.Bool.{true, ◌&&◌, cond, false≢true}
use mathlib.Core.List.{List, map}
use native.Mathlib.Decide.{dec_lt}
use lib.Pow.{pow_pos}
use lib.Dec.{ltb, eqb}
use lib.ListN.{length, get_or, length-map, get_or-map, get_or-eq_default}
use lib.Seq.{ext_get_or}
use Rattle.text.specs.Bits.{bit, any_below}
use Rattle.text.specs.Refusal.{greatest_pattern}
use Rattle.text.specs.Card.{Row, none, dead, row, later, earliest, union, follow, onward, through, lone, tabulate, rows_of}
use Rattle.text.proofs.Truth.{and_left, and_right, same_truth, Below, any_below-some, some-any_below}
use Rattle.text.proofs.Bits.{bit-zero, bit-ext, bit-from_bits, from_bits-lt, lone-bit}
use Rattle.text.proofs.Ends.{later-none, later-zero, later-add, later-min, min_assoc}
use Rattle.text.proofs.Ends.{earliest-le, earliest-least, is-earliest, earliest-is, earliest-min, earliest-later}

pub union-lt : (st : ℕ) (f : ℕ → ℕ) (m : ℕ) → union st f m < 2 ^ m
unfolding union
union-lt st f m = from_bits-lt _ m

pub union-bit : (st : ℕ) (f : ℕ → ℕ) (m r : ℕ) → r < m → bit (union st f m) r ≡ any_below (λ q. bit st q && bit (f q) r) m
unfolding union
union-bit st f m r l = bit-from_bits (λ p. any_below (λ q. bit st q && bit (f q) p) m) m r l

-- a bit of the state from which f sends to r
pub record Sent (st : ℕ) (f : ℕ → ℕ) (m r : ℕ) : Type 0 where
  pub sender : ℕ
  pub small : sender < m
  pub carried : bit st sender ≡ true
  pub arrives : bit (f sender) r ≡ true

-- bit r of a union is set exactly when some bit of the state is sent to r
pub union-sent : (st : ℕ) (f : ℕ → ℕ) (m r : ℕ) → r < m → (bit (union st f m) r ≡ true) ↔ Sent st f m r
union-sent st f m r l =
    rw union-bit
    (λ b. sent (any_below-some _ m b), λ s. some-any_below _ m s.sender s.small (rw s.carried s.arrives))
  where
    sent : Below (λ q. bit st q && bit (f q) r) m → Sent st f m r
    sent b =
        let c = bit st b.index in
        let a = bit (f b.index) r in
        record { sender = b.index; small = b.small; carried = and_left c a b.passes; arrives = and_right c a b.passes }

-- a number below 2 ^ m with the bits of a union is that union
pub is_union : (x st : ℕ) (f : ℕ → ℕ) (m : ℕ) → x < 2 ^ m → ((r : ℕ) → r < m → (bit x r ≡ true) ↔ Sent st f m r) → union st f m ≡ x
is_union x st f m small h =
    bit-ext m (union st f m) x (union-lt st f m) small
    (λ r l.
    let u = union-sent st f m r l in
    same_truth _ _ (λ b. (h r l).1 (u.0 b)) (λ b. u.1 ((h r l).0 b)))

no-bit : (r : ℕ) → bit 0 r ≡ true → ⊥
no-bit r b = false≢true (sym (bit-zero r) ∙ b)

-- nothing carried sends nothing
pub union-zero : (f : ℕ → ℕ) (m : ℕ) → union 0 f m ≡ 0
union-zero f m = is_union 0 0 f m (pow_pos m) (λ r l. (λ b. absurd (no-bit r b), λ s. absurd (no-bit s.sender s.carried)))

-- the union over a single bit q is f q
pub union-single : (f : ℕ → ℕ) (m q : ℕ) → q < m → f q < 2 ^ m → union (2 ^ q) f m ≡ f q
union-single f m q l small =
    is_union (f q) (2 ^ q) f m small
    (λ r k. (
      λ b. record { sender = q; small = l; carried = (lone-bit q q).1 refl; arrives = b },
      λ s. rw ((lone-bit q s.sender).0 s.carried) s.arrives,
    ))

-- the union of single bits is the state
pub union_self : (st m : ℕ) → st < 2 ^ m → union st (λ q. 2 ^ q) m ≡ st
union_self st m small =
    is_union st st (λ q. 2 ^ q) m small
    (λ r l. (
      λ b. record { sender = r; small = l; carried = b; arrives = (lone-bit r r).1 refl },
      λ s. rw ((lone-bit s.sender r).0 s.arrives) at s.carried,
    ))

-- a union depends on f only below m
pub union-cong : (st : ℕ) (f g : ℕ → ℕ) (m : ℕ) → ((q : ℕ) → q < m → f q ≡ g q) → union st f m ≡ union st g m
union-cong st f g m h =
    is_union (union st g m) st f m (union-lt st g m)
    (λ r l.
    let u = union-sent st g m r l in
    (λ b. sent g f (λ q k. sym (h q k)) r (u.0 b), λ s. u.1 (sent f g h r s)))
  where
    sent : (f g : ℕ → ℕ) → ((q : ℕ) → q < m → f q ≡ g q) → (r : ℕ) → Sent st f m r → Sent st g m r
    sent f g h r s =
        record { sender = s.sender; small = s.small; carried = s.carried; arrives = rw (h s.sender s.small) at s.arrives }

-- the union over a union
pub union-union : (st : ℕ) (f g : ℕ → ℕ) (m : ℕ) → union (union st f m) g m ≡ union st (λ q. union (f q) g m) m
union-union st f g m =
    sym (is_union (union (union st f m) g m) st (λ q. union (f q) g m) m (union-lt _ g m) (λ r l. (out r l, back r l)))
  where
    out : (r : ℕ) → r < m → bit (union (union st f m) g m) r ≡ true → Sent st (λ q. union (f q) g m) m r
    out r l b =
        let s = (union-sent (union st f m) g m r l).0 b in
        let t = (union-sent st f m s.sender s.small).0 s.carried in
        let on : Sent (f t.sender) g m r = record { sender = s.sender; small = s.small; carried = t.arrives; arrives = s.arrives } in
        record { sender = t.sender; small = t.small; carried = t.carried; arrives = (union-sent (f t.sender) g m r l).1 on }

    back : (r : ℕ) → r < m → Sent st (λ q. union (f q) g m) m r → bit (union (union st f m) g m) r ≡ true
    back r l s =
        let t = (union-sent (f s.sender) g m r l).0 s.arrives in
        let on : Sent st f m t.sender = record { sender = s.sender; small = s.small; carried = s.carried; arrives = t.carried } in
        let carried = (union-sent st f m t.sender t.small).1 on in
        (union-sent (union st f m) g m r l).1 (record { sender = t.sender; small = t.small; carried = carried; arrives = t.arrives })

-- bit 0 is sent by bit 0 alone, and stays as it is
pub union-fresh : (st : ℕ) (f : ℕ → ℕ) (m : ℕ) → 0 < m → ((q : ℕ) → q < m → bit (f q) 0 ≡ eqb q 0) → bit (union st f m) 0 ≡ bit st 0
union-fresh st f m l h =
    let u = union-sent st f m 0 l in
    same_truth _ _
    (λ b. let s = u.0 b in rw (eqb-true s.sender 0 (sym (h s.sender s.small) ∙ s.arrives)) at s.carried)
    (λ b. u.1 (record { sender = 0; small = l; carried = b; arrives = h 0 l }))

-- nothing carried ends nothing
pub earliest-zero : (f : ℕ → ℕ) (n : ℕ) → earliest 0 f n ≡ none
earliest-zero f n = is-earliest none 0 f n (omega arith) (λ e k. (λ h q l b. absurd (no-bit q b), λ h. k))

-- the earliest end over a single bit q is f q
pub earliest-single : (f : ℕ → ℕ) (n q : ℕ) → q < n → f q ≤ none → earliest (2 ^ q) f n ≡ f q
earliest-single f n q l small =
    is-earliest (f q) (2 ^ q) f n small (λ e k. (λ h p j b. rw ((lone-bit q p).0 b) at h, λ h. h q l ((lone-bit q q).1 refl)))

-- an earliest end depends on f only below n
pub earliest-cong : (st : ℕ) (f g : ℕ → ℕ) (n : ℕ) → ((q : ℕ) → q < n → f q ≡ g q) → earliest st f n ≡ earliest st g n
earliest-cong st f g n h =
    is-earliest (earliest st g n) st f n (earliest-le st g n)
    (λ e k.
    let least = earliest-least st g n e k in
    (λ b q l c. rw (h q l) (least.0 b q l c), λ b. least.1 (λ q l c. rw (h q l) at (b q l c))))

-- the earliest end over a union
pub earliest-union : (st : ℕ) (f g : ℕ → ℕ) (m : ℕ) → earliest (union st f m) g m ≡ earliest st (λ q. earliest (f q) g m) m
earliest-union st f g m =
    is-earliest (earliest st (λ q. earliest (f q) g m) m) (union st f m) g m (earliest-le st _ m) (λ e k. (out e k, back e k))
  where
    out : (e : ℕ) → e ≤ none → e ≤ earliest st (λ q. earliest (f q) g m) m
        → (r : ℕ) → r < m → bit (union st f m) r ≡ true → e ≤ g r
    out e k h r l b =
        let s = (union-sent st f m r l).0 b in
        let sent = (earliest-least st (λ q. earliest (f q) g m) m e k).0 h s.sender s.small s.carried in
        (earliest-least (f s.sender) g m e k).0 sent r l s.arrives

    back : (e : ℕ) → e ≤ none → ((r : ℕ) → r < m → bit (union st f m) r ≡ true → e ≤ g r)
        → e ≤ earliest st (λ q. earliest (f q) g m) m
    back e k h = (earliest-least st (λ q. earliest (f q) g m) m e k).1 (λ q l b. (earliest-least (f q) g m e k).1 (onward-from q l b))
      where
        onward-from : (q : ℕ) → q < m → bit st q ≡ true → (r : ℕ) → r < m → bit (f q) r ≡ true → e ≤ g r
        onward-from q l b r j c = h r j ((union-sent st f m r j).1 (record { sender = q; small = l; carried = b; arrives = c }))

-- what rows f q make of a state; of a card's rows, that is `follow`
abbrev pub gather : ℕ → (ℕ → Row) → ℕ → Row
gather m f st = record { exit = union st (λ q. (f q).exit) m; first = earliest st (λ q. (f q).first) m }

-- only the rows below m count
pub gather_cong : (m : ℕ) (f g : ℕ → Row) (st : ℕ) → ((q : ℕ) → q < m → f q ≡ g q) → gather m f st ≡ gather m g st
gather_cong m f g st h =
    λ i.
    record {
      exit = union-cong st (λ q. (f q).exit) (λ q. (g q).exit) m (λ q l. ap (λ r. r.exit) (h q l)) i;
      first = earliest-cong st (λ q. (f q).first) (λ q. (g q).first) m (λ q l. ap (λ r. r.first) (h q l)) i;
    }

pub follow-zero : (m : ℕ) (rows : List Row) → follow m rows 0 ≡ dead
unfolding follow
follow-zero m rows = λ i. record { exit = union-zero (λ q. (row rows q).exit) m i; first = earliest-zero (λ q. (row rows q).first) m i }

-- a lone q is sent where row q says
pub follow-single : (m : ℕ) (rows : List Row) (q : ℕ) → q < m → (row rows q).exit < 2 ^ m → (row rows q).first ≤ none
    → follow m rows (2 ^ q) ≡ row rows q
unfolding follow
follow-single m rows q l small end =
    λ i.
    record {
      exit = union-single (λ p. (row rows p).exit) m q l small i;
      first = earliest-single (λ p. (row rows p).first) m q l end i;
    }

pub onward-dead : (n : ℕ) → onward n dead dead ≡ dead
unfolding onward
onward-dead n = λ i. record { exit = 0; first = ends i }
  where
    ends : min none (later n none) ≡ none
    ends = rw later-none

pub onward-assoc : (n k : ℕ) (r s t : Row) → onward (n + k) (onward n r s) t ≡ onward n r (onward k s t)
unfolding onward
onward-assoc n k r s t = λ i. record { exit = t.exit; first = ends i }
  where
    ends : min (min r.first (later n s.first)) (later (n + k) t.first)
        ≡ min r.first (later n (min s.first (later k t.first)))
    ends = rw (later-add, later-min, min_assoc)

-- a dead row stays dead
pub through-dead : (m n : ℕ) (next : List Row) → through m n next dead ≡ dead
through-dead m n next = ap (onward n dead) (follow-zero m next) ∙ onward-dead n

gather-through : (m n : ℕ) (f : ℕ → Row) (next : List Row) (st : ℕ)
    → gather m (λ q. through m n next (f q)) st ≡ through m n next (gather m f st)
unfolding follow onward
gather-through m n f next st =
    λ i.
    record {
      exit = sym (union-union st (λ q. (f q).exit) (λ q. (row next q).exit) m) i;
      first = ends (λ q. (f q).first) (λ q. (f q).exit) (λ q. (row next q).first) i;
    }
  where
    ends : (a x b : ℕ → ℕ)
        → earliest st (λ q. min (a q) (later n (earliest (x q) b m))) m ≡ min (earliest st a m) (later n (earliest (union st x m) b m))
    ends a x b =
        rw (earliest-min st a (λ q. later n (earliest (x q) b m)) m, earliest-later st (λ q. earliest (x q) b m) m n, earliest-union)

pub row-map : (f : Row → Row) (rows : List Row) (q : ℕ) → f dead ≡ dead → row (map f rows) q ≡ f (row rows q)
row-map f rows q e = subst (λ (d : Row). get_or (map f rows) q d ≡ f (row rows q)) e (get_or-map f rows q dead)

-- following the rows of a joined card is following the first card's rows, and then the second's
pub follow-onward : (m n : ℕ) (rows next : List Row) (st : ℕ)
    → follow m (map (through m n next) rows) st ≡ through m n next (follow m rows st)
unfolding follow
follow-onward m n rows next st =
    gather_cong m (row (map (through m n next) rows)) (λ q. through m n next (row rows q)) st
    (λ q l. row-map (through m n next) rows q (through-dead m n next))
    ∙ gather-through m n (row rows) next st

-- two cards on, at once or one after another
pub through-through : (m n k : ℕ) (next last : List Row) (r : Row)
    → through m (n + k) last (through m n next r) ≡ through m n (map (through m k last) next) r
unfolding onward
through-through m n k next last r =
    let s = follow m next r.exit in
    onward-assoc n k r s (follow m last s.exit) ∙ ap (onward n r) (sym (follow-onward m k next last r.exit))

pub length-tabulate : {A : Type 0} (f : ℕ → A) (n : ℕ) → length (tabulate f n) ≡ n
unfolding tabulate
length-tabulate f zero = refl
length-tabulate f (suc n) = ap suc (length-tabulate (λ k. f (suc k)) n)

pub get_d_tabulate : {A : Type 0} (f : ℕ → A) (n q : ℕ) (d : A) → q < n → get_or (tabulate f n) q d ≡ f q
unfolding tabulate
get_d_tabulate f zero q d l = absurd (let z : ⊥ = omega arith in z)
get_d_tabulate f (suc n) zero d l = refl
get_d_tabulate f (suc n) (suc q) d l = get_d_tabulate (λ k. f (suc k)) n q d (omega arith)

pub length-rows_of : (m : ℕ) (f : ℕ → Row) → length (rows_of m f) ≡ greatest_pattern
unfolding rows_of
length-rows_of m f = length-tabulate _ greatest_pattern

pub rows_of-below : (m : ℕ) (f : ℕ → Row) (q : ℕ) → q < m → m ≤ greatest_pattern → row (rows_of m f) q ≡ f q
unfolding rows_of
rows_of-below m f q l h = get_d_tabulate (λ q. cond (ltb q m) (f q) dead) greatest_pattern q dead (omega arith) ∙ rw (lt-ltb q m l)

pub rows_of-from : (m : ℕ) (f : ℕ → Row) (q : ℕ) → m ≤ q → row (rows_of m f) q ≡ dead
unfolding rows_of
rows_of-from m f q h =
    by_cases (dec_lt q greatest_pattern)
    (λ (l : q < greatest_pattern). get_d_tabulate (λ q. cond (ltb q m) (f q) dead) greatest_pattern q dead l ∙ rw (le-ltb q m h))
    (λ (l : ¬ (q < greatest_pattern)).
    let short : length (rows_of m f) ≤ q = omega (arith, length-rows_of m f) in
    get_or-eq_default (rows_of m f) dead short)

-- what the rows f of a card make of a state
pub follow-rows_of : (m : ℕ) (f : ℕ → Row) (st : ℕ) → m ≤ greatest_pattern → follow m (rows_of m f) st ≡ gather m f st
unfolding follow
follow-rows_of m f st h = gather_cong m (row (rows_of m f)) f st (λ q l. rows_of-below m f q l h)

-- what comes after a lone q is what its row says
pub through-lone : (m : ℕ) (next : List Row) (q : ℕ) → q < m → (row next q).exit < 2 ^ m → (row next q).first ≤ none
    → through m 0 next (lone q) ≡ row next q
unfolding onward
through-lone m next q l small end =
    ap (onward 0 (lone q)) (follow-single m next q l small end) ∙ (λ i. record { exit = (row next q).exit; first = ends i })
  where
    ends : min none (later 0 (row next q).first) ≡ (row next q).first
    ends = rw (later-zero (row next q).first end) (min-eq_right end)

-- no segments after a row change nothing
pub lone-through : (m n : ℕ) (r : Row) → m ≤ greatest_pattern → r.exit < 2 ^ m → r.first ≤ none → through m n (rows_of m lone) r ≡ r
unfolding onward
lone-through m n r short small end =
    ap (onward n r) (follow-rows_of m lone r.exit short)
    ∙ (λ i. record { exit = union_self r.exit m small i; first = ends i })
  where
    none-ends : earliest r.exit (λ q. none) m ≡ none
    none-ends = earliest-is (λ e. e ≡ none) r.exit (λ q. none) m refl (λ q l. refl)

    ends : min r.first (later n (earliest r.exit (λ q. none) m)) ≡ r.first
    ends = rw (none-ends, later-none) (min-eq_left end)

-- mapped rows, row by row
pub map_rows : (f : Row → Row) (rows other : List Row) → f dead ≡ dead → length rows ≡ length other
    → ((q : ℕ) → f (row rows q) ≡ row other q) → map f rows ≡ other
map_rows f rows other still long h = ext_get_or dead (map f rows) other (length-map rows f ∙ long) (λ q l. row-map f rows q still ∙ h q)
