-- Laws of the last two lines: how long they are, what stands in a buffer of that size, what is put after what, and what is asked of them.
use Prim.Native.Nat.{ℕ, ◌+◌, ◌-◌, ◌^◌, ◌≤◌, ◌<◌}
use native.Mathlib.Omega.{arith}
use native.Mathlib.Decide.{dec_lt}
use mathlib.Core.Path.{◌≡◌, refl, sym, ap, ap₂, ◌∙◌}
use mathlib.Core.Logic.{by_cases}
use mathlib.Core.Bool.{Bool, false}
use mathlib.Core.List.{List, [], ◌∷◌, ◌++◌, append_assoc}
use lib.ListN.{length, take, drop, length-append, length-take, length-drop}
use lib.Seq.{take_all, take_at, drop_at, take-add, length-take-le}
use Rattle.text.specs.Compare.{same, suffix}
use Rattle.text.proofs.Strings.{same-lengths, suffix-short, part_end}
use Rattle.layout.specs.Bytes.{over}
use Rattle.digest.specs.Words.{low_bytes, first32}
use Rattle.digest.specs.Blake2b.{blake2b256}
use Rattle.lines.specs.Decimal.{digits}
use Rattle.lines.specs.Puts.{fitting, Put}
use Rattle.lines.proofs.Putting.{put-length, put-behind, put-more, put_all}
use Rattle.lines.proofs.Digits.{digits-few}
use Rattle.manifest.specs.Lines.{digest_at}
use Rattle.manifest.specs.Written.{hex_of, counts_line, digest_line, end_lines}
use Rattle.manifest.specs.Check.{before_seal, sealed, vouches, counts_stand}
use Rattle.manifest.proofs.Hex.{hex-length}

pub digest-length : (s : List ℕ) → length (blake2b256 s) ≡ 32
unfolding blake2b256 first32 low_bytes
digest-length s = refl

pub hex-digest : (s : List ℕ) → length (hex_of (blake2b256 s)) ≡ 64
hex-digest s = omega (arith, hex-length (blake2b256 s), digest-length s)

pub seal-length : (s : List ℕ) → length (digest_line (blake2b256 s)) ≡ 74
unfolding digest_line
seal-length s = simp length-append (omega (arith, hex-digest s))

-- a buffer of that size holds all that is put, and nothing else
pub put_full : {d xs out : List ℕ} {next : ℕ} → Put d 0 xs out next → length d ≡ length xs → out ≡ xs
put_full {d} {xs} {out} {next} p e =
    let room : length xs ≤ length d = omega arith in
    let a = put_all d xs out next p room in
    let all : length out ≤ next = omega (arith, a.0, put-length p) in
    sym (take_all next out all) ∙ a.1

module _ (m : List ℕ) where
  pub sealed-short : length m < 74 → false ≡ sealed m
  unfolding sealed
  sealed-short l =
      let none : length m - 74 ≡ 0 = omega arith in
      let differ : length (drop (length m - 74) m) ≡ length (digest_line (blake2b256 (before_seal m))) → ⊥ =
      λ e. omega (arith, e, seal-length (before_seal m), length-drop (length m - 74) m) in
      sym (same-lengths _ _ differ)

  pub sealed-is :
      {from : ℕ} {seal d out : List ℕ} {next : ℕ} {r : Bool} → from ≡ length m - 74 → seal ≡ blake2b256 (take from m) → length d ≡ 74 →
      Put d 0 (digest_line seal) out next → r ≡ same (take (length m - from) (drop from m)) out → r ≡ sealed m
  unfolding sealed
  sealed-is {from} {seal} {d} {out} {next} {r} e is size p h =
      let full : length d ≡ length (digest_line seal) = rw is (size ∙ sym (seal-length (take from m))) in
      h ∙ ap₂ same (part_end m from) (put_full p full ∙ ap digest_line is)
      ∙ ap (λ (k : ℕ). same (drop k m) (digest_line (blake2b256 (take k m)))) e

  module _ (start : ℕ) (stretch : List ℕ) where
    few-differ : length (digest_at m start) < 64 → false ≡ vouches m start stretch
    unfolding vouches
    few-differ l =
        let differ : length (digest_at m start) ≡ length (hex_of (blake2b256 stretch)) → ⊥ =
        λ e. omega (arith, e, hex-digest stretch) in
        sym (same-lengths _ _ differ)

    pub vouches-early : start < 66 → false ≡ vouches m start stretch
    vouches-early l = few-differ (omega (arith, length-take (start - 2 - (start - 66)) (drop (start - 66) m)))

    pub vouches-late : 66 ≤ start → length m < start - 2 → false ≡ vouches m start stretch
    vouches-late h l =
        few-differ
        (omega (arith, length-take (start - 2 - (start - 66)) (drop (start - 66) m), length-drop (start - 66) m))

    pub vouches-is :
        {from end : ℕ} {digest d out : List ℕ} {next : ℕ} {r : Bool} → from ≡ start - 66 → end ≡ start - 2 →
        digest ≡ blake2b256 stretch → length d ≡ 64 → Put d 0 (hex_of digest) out next →
        r ≡ same (take (end - from) (drop from m)) out → r ≡ vouches m start stretch
    unfolding vouches
    vouches-is {from} {end} {digest} {d} {out} {next} {r} a b is size p h =
        let full : length d ≡ length (hex_of digest) = rw is (size ∙ sym (hex-digest stretch)) in
        h ∙ ap₂ same (ap₂ (λ (x y : ℕ). take (y - x) (drop x m)) a b) (put_full p full ∙ ap hex_of is)

-- a line of three numbers of 64 bits
pub counts-length : (n s b : ℕ) → n < 2 ^ 64 → s < 2 ^ 64 → b < 2 ^ 64 → length (counts_line n s b) ≤ 92
unfolding counts_line
counts-length n s b u v w =
    let small : (k : ℕ) → k < 2 ^ 64 → length (digits k) ≤ 20 =
    λ k l. let below : k < 10 ^ 20 = omega arith in digits-few 19 k below in
    simp length-append (omega (arith, small n u, small s v, small b w))

-- the bytes from one place up to another, cut in the other order
drop-take : (m : List ℕ) (start end : ℕ) → start ≤ end → end ≤ length m → drop start (take end m) ≡ take (end - start) (drop start m)
drop-take m start end a b =
    let sum : end ≡ start + (end - start) = omega arith in
    let few : start ≤ length m = omega arith in
    ap (λ (k : ℕ). drop start (take k m)) sum
    ∙ ap (drop start) (take-add start (end - start) m)
    ∙ drop_at (take start m) (take (end - start) (drop start m)) start (length-take-le start m few)

module _ (m : List ℕ) (n s b : ℕ) where
  -- the line feed before it and the line
  abbrev ended : List ℕ
  ended = 10 ∷ counts_line n s b

  pub counts-none : length m < 74 → false ≡ counts_stand m n s b
  unfolding counts_stand
  counts-none l =
      let none : length m - 74 ≡ 0 = omega arith in
      sym (rw none (suffix-short ended [] (omega arith)))

  module _ {d o out : List ℕ} {from size : ℕ} (first : Put d 0 (10 ∷ []) o from) (second : Put o from (counts_line n s b) out size)
      (room : length d ≡ 93) (u : n < 2 ^ 64) (v : s < 2 ^ 64) (w : b < 2 ^ 64) where
    all : (size ≡ length ended) × (take size out ≡ ended)
    all =
        let fits : length ended ≤ length d = omega (arith, counts-length n s b u v w) in
        put_all d ended out size (put-more first second) fits

    pub counts-size : size ≤ length out
    counts-size = omega (arith, all.0, counts-length n s b u v w, put-length first, put-length second)

    module _ {end : ℕ} (is : end ≡ length m - 74) where
      before-length : length (take end m) ≡ end
      before-length = let few : end ≤ length m = omega arith in length-take-le end m few

      pub counts-short : end < size → false ≡ counts_stand m n s b
      unfolding counts_stand
      counts-short l =
          let short : length (take end m) < length ended = omega (arith, before-length, all.0) in
          sym (ap (λ (k : ℕ). suffix ended (take k m)) (sym is) ∙ suffix-short ended (take end m) short)

      pub counts-are :
          {start : ℕ} {r : Bool} → size ≤ end → start ≡ end - size → r ≡ same (take size out) (take (end - start) (drop start m)) →
          r ≡ counts_stand m n s b
      unfolding counts_stand suffix
      counts-are {start} {r} l e h =
          let upto : start ≤ end = omega arith in
          let few : end ≤ length m = omega arith in
          let place : length (take end m) - length ended ≡ start = omega (arith, before-length, all.0) in
          h ∙ ap₂ same all.1 (sym (drop-take m start end upto few))
          ∙ ap (λ (k : ℕ). same ended (drop k (take end m))) (sym place)
          ∙ ap (λ (k : ℕ). same ended (drop (length (take k m) - length ended) (take k m))) is

-- where there is no room, it does not matter what is put
put-roomless : {d out : List ℕ} {at next : ℕ} (xs ys : List ℕ) → length d ≤ at → Put d at xs out next → Put d at ys out next
put-roomless {d} {out} {at} {next} xs ys l p =
    let none : length d - at ≡ 0 = omega arith in
    record { left = rw none (rw none at p.left); place = rw none (rw none at p.place) }

-- the last two lines, one after the other: the digest is that of all bytes before it
module _ {d o : List ℕ} {at end : ℕ} (n s b : ℕ) (first : Put d at (counts_line n s b) o end) where
  pub end-far : length o < end → Put d at (end_lines (take at d) n s b) o end
  unfolding end_lines
  end-far l = put-more first (put-behind o end (digest_line (blake2b256 (take at d ++ counts_line n s b))) l)

  fits-front : at + length (counts_line n s b) ≤ length d → take end o ≡ take at d ++ counts_line n s b
  unfolding over
  fits-front l =
      let xs : List ℕ = counts_line n s b in
      let room : length xs ≤ length d - at = omega arith in
      let whole : fitting d at xs ≡ xs = take_all (length d - at) xs room in
      let few : at ≤ length d = omega arith in
      let front : o ≡ (take at d ++ xs) ++ drop (at + length xs) d =
      first.left ∙ ap (over d at) whole ∙ sym (append_assoc (take at d) xs (drop (at + length xs) d)) in
      let size : length (take at d ++ xs) ≡ end =
      omega (arith, length-append (take at d) xs, length-take-le at d few, first.place, ap length whole) in
      ap (take end) front ∙ take_at (take at d ++ xs) (drop (at + length xs) d) end size

  pub end-put :
      {seal out : List ℕ} {next : ℕ} → seal ≡ blake2b256 (take end o) → Put o end (digest_line seal) out next →
      Put d at (end_lines (take at d) n s b) out next
  unfolding end_lines
  end-put {seal} {out} {next} is p =
      let xs : List ℕ = counts_line n s b in
      by_cases (dec_lt (length d) (at + length xs))
      (λ (cut : length d < at + length xs).
      let full : length o ≤ end = omega (arith, first.place, length-take (length d - at) xs, put-length first) in
      put-more first (put-roomless (digest_line seal) (digest_line (blake2b256 (take at d ++ xs))) full p))
      (λ (fits : length d < at + length xs → ⊥).
      let room : at + length xs ≤ length d = omega arith in
      let q : Put o end (digest_line (blake2b256 (take at d ++ xs))) out next = rw (is ∙ ap blake2b256 (fits-front room)) at p in
      put-more first q)
