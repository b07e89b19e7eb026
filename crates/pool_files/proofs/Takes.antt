-- Laws of taking bases: byte by byte, up to as many as are wanted.
use Rattle.std.proofs.Common.{max, ◌≡◌, ℕ, ◌+◌, ◌-◌, ◌<◌, ◌≤◌, true, false, List, [], ◌∷◌, length, get_or, drop, set, refl, ap, ◌∙◌, add-one, arith, length-set, drop_of_length-le, drop-cons, eq-eqb, ne_eqb}
use Rattle.pool_files.specs.Reference.{Led, Base, Nothing, End, Filled, filled, step_of, led_to, by_led, taking, wanted}
use Rattle.pool_files.specs.declared.reference.Reading.{Reading}
use Rattle.pool_files.specs.declared.reference.Space.{Space}

-- from here the bytes that are left lead to what all of them lead to, and there is room for the bases that are wanted
pub record Takes (name : List ℕ) (r₀ : Reading) (left₀ : ℕ) (piece : List ℕ) (from n₀ : ℕ) (d₀ : List ℕ)
    (r : Reading) (left at n : ℕ) (d : List ℕ) : Type 0 where
  pub same : taking name r left (drop at piece) at n d ≡ taking name r₀ left₀ (drop from piece) from n₀ d₀
  pub size : length d ≡ length d₀
  pub room : 0 < left → n + left ≤ length d
  pub inside : at ≤ max from (length piece)

pub takes_none :
    (name : List ℕ) (r : Reading) (piece : List ℕ) (from n most : ℕ) (d : List ℕ) (left : ℕ) →
    left ≡ wanted (length d) n most →
    Takes name r (wanted (length d) n most) piece from n d r left from n d
unfolding wanted
takes_none name r piece from n most d left e =
    record { same = ap (λ (k : ℕ). taking name r k (drop from piece) from n d) e; size = refl; room = λ l. omega arith; inside = omega arith }

module _ {name : List ℕ} {r₀ : Reading} {left₀ : ℕ} {piece : List ℕ} {from n₀ : ℕ} {d₀ : List ℕ}
    {r : Reading} {left at n : ℕ} {d : List ℕ} (t : Takes name r₀ left₀ piece from n₀ d₀ r left at n d) where
  abbrev whole : Filled
  whole = taking name r₀ left₀ (drop from piece) from n₀ d₀

  pub takes_all : length piece ≤ at → filled r at n d ≡ taking name r₀ left₀ (drop from piece) from n₀ d₀
  unfolding taking
  takes_all le =
      let none : drop at piece ≡ [] = drop_of_length-le piece le in
      rw none at t.same

  pub takes-room : (left ≡ 0 → ⊥) → n < length d
  takes-room some = let more : 0 < left = omega arith in omega (arith, t.room more)

  module _ (lt : at < length piece) where
    abbrev next : Reading
    next = step_of name r (get_or piece at 0)

    cut : drop at piece ≡ get_or piece at 0 ∷ drop (at + 1) piece
    cut = rw add-one (drop-cons piece at 0 lt)

    step_cut : taking name r left (get_or piece at 0 ∷ drop (at + 1) piece) at n d ≡ taking name r₀ left₀ (drop from piece) from n₀ d₀
    step_cut = rw cut at t.same

    pub takes-full : left ≡ 0 → filled r at n d ≡ taking name r₀ left₀ (drop from piece) from n₀ d₀
    unfolding taking
    takes-full none = rw (eq-eqb left 0 none) at step_cut

    module _ (some : left ≡ 0 → ⊥) where
      pub takes-end :
          (q : Reading) → q ≡ step_of name r (get_or piece at 0) → (led : Led) → led ≡ led_to q → by_led led false false true ≡ true →
          filled q at n d ≡ taking name r₀ left₀ (drop from piece) from n₀ d₀
      unfolding taking
      takes-end q e End led go = rw (ne_eqb left 0 some, ← e, ← led) at step_cut
      takes-end q e Base led go = let z : ◌≡◌ {A = ℕ} 0 1 = cc in absurd (let y : ⊥ = omega arith in y)
      takes-end q e Nothing led go = let z : ◌≡◌ {A = ℕ} 0 1 = cc in absurd (let y : ⊥ = omega arith in y)

      -- after a byte that has led to no end, with what it puts
      pub takes-more :
          (q : Reading) (led : Led) (space : Space) (x : List ℕ) →
          q ≡ step_of name r (get_or piece at 0) →
          led ≡ led_to q →
          by_led led false false true ≡ false →
          space ≡ by_led led (record { n = n + 1; left = left - 1 }) (record { n = n; left = left }) (record { n = n; left = left }) →
          x ≡ by_led led (set d n (get_or piece at 0)) d d →
          Takes name r₀ left₀ piece from n₀ d₀ q space.left (at + 1) space.n x
      unfolding taking
      takes-more q Base space x e led go s p =
          let on = rw (ne_eqb left 0 some, ← e, ← led) at step_cut in
          record {
            same = rw (s, p) on;
            size = rw p (length-set d n (get_or piece at 0) ∙ t.size);
            room =
                rw (s, p) (λ (l : 0 < left - 1). let more : 0 < left = omega arith in omega
                (arith, t.room more, length-set d n (get_or piece at 0)));
            inside = omega arith;
          }
      takes-more q Nothing space x e led go s p =
          let on = rw (ne_eqb left 0 some, ← e, ← led) at step_cut in
          record { same = rw (s, p) on; size = rw p t.size; room = rw (s, p) t.room; inside = omega arith }
      takes-more q End space x e led go s p = let z : ◌≡◌ {A = ℕ} 0 1 = cc in absurd (let y : ⊥ = omega arith in y)
