-- `desk_list::reading::content` meets its contract: the bytes first, then the words.
use Rattle.desk_list.specs.Kinds.{plain}
use Rattle.desk_list.proofs.Entries.{entry-byte, entry-words}
use Rattle.desk_list.proofs.reading.content.Goals as goal

pub returns-then-plain-line : goal.returns-then-plain-line
returns-then-plain-line c = (entry-byte _ (c.past-plain.ensures.value plain (λ _ _ _ e. e)) c.if-plain-line.true, tt)

pub returns : goal.returns
returns c =
    (entry-words _ (c.past-plain.ensures.value plain (λ _ _ _ e. e)) c.if-plain-line.false c.words.ensures.0, c.words.ensures.1)
