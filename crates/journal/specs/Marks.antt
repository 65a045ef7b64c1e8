-- What the marks of a running store mark.
use Rattle.history.specs.Entry.{Marking, RedoMark, Online, BackupEnd}
use Rattle.journal.specs.declared.marks.StoreMark.{StoreMark}
use Rattle.journal.specs.declared.marks.StoreMark.TheVariants as mark

abbrev pub marking_of : StoreMark → Marking
marking_of mark.Redo = RedoMark 1
marking_of (mark.Online redo) = Online redo.0
marking_of (mark.BackupEnd start) = BackupEnd start.0
