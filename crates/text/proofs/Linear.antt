-- Running a text is linear in the state: what comes of a state is the union, and the earliest end, over its single bits.
use Prim.Native.Nat.{ℕ, zero, suc, ◌^◌, ◌<◌}
use native.Mathlib.Omega.{arith}
use mathlib.Core.Path.{◌≡◌, refl, sym, ◌∙◌}
use mathlib.Core.Logic.{◌↔◌}
use mathlib.Core.Bool.{true}
use mathlib.Core.List.{List, [], ◌∷◌}
use lib.ListN.{length}
use Rattle.text.specs.Text.{Segment, Text}
use Rattle.text.specs.Bits.{bit}
use Rattle.text.specs.State.{next, run, marks_from}
use Rattle.text.specs.Card.{first_end, union, earliest}
use Rattle.text.proofs.Bits.{lone-bit}
use Rattle.text.proofs.Steps.{From, afresh, carrying}
use Rattle.text.proofs.Runs.{run-open, run-lt, run_is, is-run}
use Rattle.text.proofs.Marks.{mark-is, is-mark}
use Rattle.text.proofs.Ends.{first_end-le, first_end-least, is-earliest}
use Rattle.text.proofs.Rows.{Sent, is_union}

-- what a state brings about, one of its bits brings about alone
pub record Alone (P : List ℕ) (st : ℕ) (A : Type 0) (B : ℕ → Type 0) : Type 0 where
  pub from : ℕ
  pub short : from < length P
  pub carried : bit st from ≡ true
  pub brings : From P (2 ^ from) A B

module _ (P : List ℕ) {A : Type 0} {B : ℕ → Type 0} where
  pub from-alone : (st : ℕ) → 0 < length P → From P st A B → Alone P st A B
  from-alone st some (afresh e a) = record { from = 0; short = some; carried = e; brings = afresh ((lone-bit 0 0).1 refl) a }
  from-alone st some (carrying q c b) =
      record {
        from = q;
        short = c.short;
        carried = c.carried;
        brings = carrying q (record { some = c.some; short = c.short; carried = (lone-bit q q).1 refl }) b;
      }

  pub alone-from : (st q : ℕ) → bit st q ≡ true → From P (2 ^ q) A B → From P st A B
  alone-from st q b (afresh e a) = afresh (rw ((lone-bit q 0).0 e) at b) a
  alone-from st q b (carrying p c h) =
      carrying p (record { some = c.some; short = c.short; carried = rw ((lone-bit q p).0 c.carried) at b }) h

-- a lone 0 brings about A alone, a lone q of 1 or more B q alone
pub lone-fresh : (P : List ℕ) {A : Type 0} {B : ℕ → Type 0} → From P (2 ^ 0) A B → A
lone-fresh P (afresh e a) = a
lone-fresh P (carrying q c b) = absurd (let e : 0 ≡ q = (lone-bit 0 q).0 c.carried in let z : ⊥ = omega (arith, c.some) in z)

pub lone-carried : (P : List ℕ) (q : ℕ) → 0 < q → {A : Type 0} {B : ℕ → Type 0} → From P (2 ^ q) A B → B q
lone-carried P q some (afresh e a) = absurd (let z : ⊥ = omega (arith, (lone-bit q 0).0 e) in z)
lone-carried P q some {B = B} (carrying p c b) = rw ((lone-bit q p).0 c.carried) b

module _ (P : List ℕ) (st : ℕ) (T : Text) (some : 0 < length P) where
  run-sent : (r : ℕ) → r < length P → (bit (run P st T) r ≡ true) ↔ Sent st (λ q. run P (2 ^ q) T) (length P) r
  run-sent zero l = (
    λ e. record {
      sender = 0;
      small = some;
      carried = sym (run-open P st T some) ∙ e;
      arrives = run-open P (2 ^ 0) T some
          ∙ (lone-bit 0 0).1 refl;
    },
    λ s.
        let e = (lone-bit s.sender 0).0 (sym (run-open P (2 ^ s.sender) T some) ∙ s.arrives) in
        run-open P st T some ∙ (rw e at s.carried),
  )
  run-sent (suc r) l =
      let pos : 0 < suc r = omega arith in (
        λ e.
            let a = from-alone P st some (run_is P st T (suc r) pos l e) in
            record {
              sender = a.from;
              small = a.short;
              carried = a.carried;
              arrives = is-run P (2 ^ a.from) T (suc r) pos l
                  a.brings;
            },
        λ s.
            is-run P st T (suc r) pos l
            (alone-from P st s.sender s.carried (run_is P (2 ^ s.sender) T (suc r) pos l s.arrives)),
      )

  -- the state after a text is the union over the bits of the state before it
  pub run-linear : st < 2 ^ length P → union st (λ q. run P (2 ^ q) T) (length P) ≡ run P st T
  run-linear small = is_union (run P st T) st (λ q. run P (2 ^ q) T) (length P) (run-lt P st T small) run-sent

  -- the first end is the earliest over the bits of the state before it
  pub first-linear : earliest st (λ q. first_end (marks_from P (2 ^ q) T)) (length P) ≡ first_end (marks_from P st T)
  first-linear =
      is-earliest (first_end (marks_from P st T)) st (λ q. first_end (marks_from P (2 ^ q) T)) (length P) (first_end-le (marks_from P st T))
      (λ e k.
      let whole = first_end-least (marks_from P st T) e k in (
        λ h q l b.
            (first_end-least (marks_from P (2 ^ q) T) e k).1
            (λ j early m. whole.0 h j early (is-mark P st T j some (alone-from P st q b (mark-is P (2 ^ q) T j some m)))),
        λ h.
            whole.1
            (λ j early m.
            let a = from-alone P st some (mark-is P st T j some m) in
            (first_end-least (marks_from P (2 ^ a.from) T) e k).0 (h a.from a.short a.carried) j early
            (is-mark P (2 ^ a.from) T j some a.brings)),
      ))

-- one segment's step is linear in the state
pub next-linear : (P : List ℕ) (st : ℕ) (g : Segment) → 0 < length P → st < 2 ^ length P
    → union st (λ q. next P (2 ^ q) g) (length P) ≡ next P st g
unfolding run
next-linear P st g some small = run-linear P st (g ∷ []) some small
