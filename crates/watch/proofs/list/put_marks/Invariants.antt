-- `watch::list::put_marks` meets its contract. The loop's invariant, `Copied`: the marks of the records before i are written.
use Rattle.layout.proofs.Overs.{Copied}
use Rattle.watch.specs.Watching.{marks_of}
use Rattle.watch.specs.Sight.{text_of}
use Rattle.watch.proofs.list.put_marks.Given as goal

abbrev pub invariant-loop-i : goal.invariant-loop-i
invariant-loop-i l = Copied l.initial.marks 0 (marks_of l.list (text_of l.stretch)) l.marks l.i
