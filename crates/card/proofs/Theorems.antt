-- What this crate proves of its calls, theorem by theorem: read this file first. `rowed (carding P s)` is what the contract of `over` says
-- of its answer; `emptying`, `making`, `joining` and `asking` are what the contracts of `Card::empty` and `Card::of`, each on a strand,
-- `Card::join` and `Card::ask` say of theirs. A refusal's number is never 0, so 0 tells an acceptance. The proofs stand in the files that
-- are named on the right.
use Prim.Native.Nat.{ℕ, ◌+◌, ◌^◌, ◌<◌, ◌≤◌}
use native.Mathlib.Omega.{arith}
use mathlib.Core.Path.{◌≡◌, ap}
use mathlib.Core.Logic.{◌↔◌}
use mathlib.Core.Bool.{true}
use mathlib.Core.List.{List, ◌++◌, map}
use lib.ListN.{length}
use Rattle.text.specs.Text.{Text}
use Rattle.text.specs.Occurrence.{EndsIn}
use Rattle.text.specs.State.{is_state, fresh, run, marks_from}
use Rattle.text.specs.Refusal.{ok, after, pattern, SoundPattern}
use Rattle.text.specs.Strand.{on_strand}
use Rattle.text.specs.Card.{Row, dead, row, most_segments, later, first_end, padded, ran, card_of, empty_card, well_formed}
use Rattle.text.proofs.TextCards.{IsFirst}
use Rattle.layout.specs.Encoding.{encode_segment}
use Rattle.layout.specs.Reading.{stretch_of}
use Rattle.layout.proofs.Stands.{Bytes}
use Rattle.layout.specs.Pieces.{most_in_stretch}
use Rattle.search.specs.Chain.{segments_text, stretches_text, Trail, seeks}
use Rattle.text.specs.declared.strand.Strand.{Strand}
use Rattle.std.specs.Result.{IsOk}
use Rattle.std.proofs.Common.{Ok}
use Rattle.card.specs.declared.rows.passes.Summed.{Summed}
use Rattle.card.specs.declared.cards.Card.{Card as Held}
use Rattle.card.specs.Held.{row_of, rows_in, Full}
use Rattle.card.specs.Rows.{carding, rowed}
use Rattle.card.proofs.Carded
use Rattle.card.proofs.Carded.{Carded}
use Rattle.card.specs.Cards.{card_in, card_out}
use Rattle.card.specs.Answers.{accepted, made}
use Rattle.card.proofs.Strands
use Rattle.card.proofs.Calls.{emptying, making, joining, asking, Accepts}
use Rattle.card.proofs.TextCalls
use Rattle.card.proofs.TextCalls.{Fed}
use Rattle.card.proofs.Gatherings
use Rattle.card.proofs.Gatherings.{gathering}
use Rattle.card.proofs.Groupings
use Rattle.card.proofs.Groupings.{Together}
use Rattle.card.proofs.Neutral

-- `over` accepts exactly a sound pattern with a sound stretch
pub over-accepts : (P s : List ℕ) → IsOk (rowed (carding P s)) ↔ Carded P s
over-accepts = Carded.told-accepts

-- row q below m is then what running the text from a lone q gives, row 0 from nothing carried in
pub over-row : (P s : List ℕ) (T : Text) → SoundPattern P → stretch_of s ≡ ok T
    → (q : ℕ) → q < length P
    → (x : Summed) × (rowed (carding P s) ≡ Ok x) × (row (rows_in x.rows.exits x.rows.firsts) q ≡ ran P (2 ^ q) T)
over-row = Carded.told-row

-- and from m up nothing leaves, and nothing ends
pub over-idle : (P s : List ℕ) (T : Text) → SoundPattern P → stretch_of s ≡ ok T
    → (q : ℕ) → length P ≤ q
    → (x : Summed) × (rowed (carding P s) ≡ Ok x) × (row (rows_in x.rows.exits x.rows.firsts) q ≡ dead)
over-idle = Carded.told-idle

-- the card on a strand, whatever is given: 1, 2, 3 of the pattern as given, then the card of the pattern that the strand reads
pub empty-strand : (P : List ℕ) (strand : Strand) → emptying P strand ≡ made (pattern P (ok (empty_card (on_strand strand P))))
empty-strand P strand = ap made (Strands.empty-strand P strand)

pub of-strand : (P : List ℕ) (strand : Strand) (s : List ℕ)
    → making P strand s ≡ made (pattern P (after (stretch_of s) λ T. ok (card_of (on_strand strand P) T)))
of-strand P strand s = ap made (Strands.carding-strand P strand s)

-- `Card::of` accepts exactly a sound pattern with a sound stretch, and makes the card of the stretch's text
pub of-accepts : (P : List ℕ) (strand : Strand) (s : List ℕ) → Accepts (making P strand s) ↔ Carded P s
of-accepts = TextCalls.of-accepts

pub of-text : (P : List ℕ) (strand : Strand) (s : List ℕ) (T : Text) → Accepts (making P strand s) → stretch_of s ≡ ok T
    → making P strand s ≡ accepted (card_out (card_of (on_strand strand P) T))
of-text = TextCalls.of-text

-- joining the cards of two texts, of whatever pattern they hold, makes the card of the texts end to end, up to 4,294,967,294 segments
pub joining-texts : (P : List ℕ) (T U : Text) → SoundPattern P → length T + length U ≤ most_segments
    → joining (card_out (card_of P T)) (card_out (card_of P U)) ≡ accepted (card_out (card_of P (T ++ U)))
joining-texts = TextCalls.joining-texts

-- so does joining what two calls of `Card::of` made on one strand; two stretches never reach that limit
pub joining-of : (P : List ℕ) (strand : Strand) (s t : List ℕ) (T U : Text) → Accepts (making P strand s) → Accepts (making P strand t)
    → stretch_of s ≡ ok T → stretch_of t ≡ ok U
    → joining (making P strand s).card (making P strand t).card ≡ accepted (card_out (card_of (on_strand strand P) (T ++ U)))
joining-of = TextCalls.joining-of

-- which is what `Card::of` makes of a stretch that has both texts end to end
pub joining-append : (P : List ℕ) (strand : Strand) (s t : List ℕ) (T U : Text) → Accepts (making P strand s) → Accepts (making P strand t)
    → stretch_of s ≡ ok T → stretch_of t ≡ ok U → (w : List ℕ) → stretch_of w ≡ ok (T ++ U)
    → joining (making P strand s).card (making P strand t).card ≡ making P strand w
joining-append = TextCalls.joining-append

-- the card of a text, of whatever pattern it holds, tells what running the text from that state tells
pub asking-text : (P : List ℕ) (T : Text) → SoundPattern P → (st : ℕ) → length T ≤ most_segments → is_state (length P) st ≡ true
    → asking (card_out (card_of P T)) st ≡ ok (ran P st T)
asking-text = TextCalls.asking-text

-- what `Card::of` made tells the state after the stretch, and the first of its marks that is 1, on that strand
pub asking-of : (P : List ℕ) (strand : Strand) (s : List ℕ) (T : Text) → Accepts (making P strand s) → stretch_of s ≡ ok T
    → (st : ℕ) → is_state (length P) st ≡ true
    → let Q : List ℕ = on_strand strand P in
    asking (making P strand s).card st ≡ ok (row_of (run Q st T) (first_end (marks_from Q st T)))
asking-of = TextCalls.asking-of

-- and the joined card tells the state after both stretches, and the first 1 among the marks of both, the second from where the first ends
pub asking-joined : (P : List ℕ) (strand : Strand) (s t : List ℕ) (T U : Text) → Accepts (making P strand s) → Accepts (making P strand t)
    → stretch_of s ≡ ok T → stretch_of t ≡ ok U
    → (st : ℕ) → is_state (length P) st ≡ true
    → let Q : List ℕ = on_strand strand P in
    asking (joining (making P strand s).card (making P strand t).card).card st
    ≡ ok (row_of (run Q (run Q st T) U) (first_end (marks_from Q st T ++ marks_from Q (run Q st T) U)))
asking-joined = TextCalls.asking-joined

-- from the fresh state that is the first segment of both texts in which an occurrence ends, across the cut too
pub asking-fresh : (P : List ℕ) (strand : Strand) (s t : List ℕ) (T U : Text) → Accepts (making P strand s) → Accepts (making P strand t)
    → stretch_of s ≡ ok T → stretch_of t ≡ ok U
    → (r : Row) → asking (joining (making P strand s).card (making P strand t).card).card fresh ≡ ok r
    → IsFirst (EndsIn (on_strand strand P) (T ++ U)) r.first
asking-fresh = TextCalls.asking-fresh

-- the cards of a row of stretches, of any number, joined one after another from what `Card::empty` made: the joined card is that of their
-- texts end to end
pub gathering-text : (P : List ℕ) (strand : Strand) → SoundPattern P → (ss : List (List ℕ)) (U : Text) → stretches_text ss ≡ ok U
    → length U ≤ most_segments → gathering P strand (emptying P strand).card ss ≡ card_out (card_of (on_strand strand P) U)
gathering-text = Gatherings.gathering-text

-- and tells of a state what searching the stretches on that strand one after another, the state handed on, tells: the state after them
-- all, and the first of their marks, laid end to end, that is 1
pub gathering-asked : (P : List ℕ) (strand : Strand) → SoundPattern P → (ss : List (List ℕ)) (U : Text) → stretches_text ss ≡ ok U
    → length U ≤ most_segments
    → (st room : ℕ) (x : Trail) → is_state (length P) st ≡ true → most_in_stretch ≤ room → seeks P strand st room ss ≡ ok x
    → asking (gathering P strand (emptying P strand).card ss) st ≡ ok (row_of x.state (first_end x.marks))
gathering-asked = Gatherings.gathering-asked

-- asking what `Card::of` made tells what feeding the same segments one by one on that strand tells: the last state, and the first feed
-- that ends
pub asking-feeds : (P : List ℕ) (strand : Strand) (s : List ℕ) (T : Text) (st : ℕ) (ss : List (List ℕ)) → Accepts (making P strand s)
    → stretch_of s ≡ ok T → segments_text ss ≡ ok T → is_state (length P) st ≡ true → Fed P strand st ss (asking (making P strand s).card st)
asking-feeds = TextCalls.asking-feeds

-- and the segments of a stretch are the same segments, each as its bytes
pub segments-lone : (s : List ℕ) (T : Text) → Bytes s → stretch_of s ≡ ok T → segments_text (map encode_segment T) ≡ ok T
segments-lone = TextCalls.segments-lone

-- of three cards, whatever is in them, both groupings accept with the same card, or both refuse
pub joining-grouped : (a b c : Held) → Together (joining (joining a b).card c) (joining a (joining b c).card)
joining-grouped = Groupings.joining-grouped

-- the empty card on a strand is neutral on both sides of a card of the pattern that this strand reads
pub joining-empty-left : (P : List ℕ) (strand : Strand) (a : Held) → Full a.exits a.firsts → well_formed (card_in a) ≡ true
    → a.pattern ≡ padded (on_strand strand P) → a.m ≡ length P → joining (emptying P strand).card a ≡ accepted a
joining-empty-left = Neutral.joining-empty-left

pub joining-empty-right : (P : List ℕ) (strand : Strand) (a : Held) → Full a.exits a.firsts → well_formed (card_in a) ≡ true
    → a.pattern ≡ padded (on_strand strand P) → a.m ≡ length P → joining a (emptying P strand).card ≡ accepted a
joining-empty-right = Neutral.joining-empty-right

-- an end in the right card is counted from the left card's start in full: the sum stays below "none"
pub end-counted : (n k e : ℕ) → n + k ≤ most_segments → e < k → later n e ≡ n + e
unfolding later
end-counted n k e l h = omega arith
