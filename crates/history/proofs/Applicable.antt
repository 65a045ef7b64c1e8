-- What is read, and what can be written, may be applied.
use Rattle.std.proofs.lemmas.List.Elements.{All-nil}
use Rattle.wal_record.specs.declared.record.BlockRef.{BlockRef}
use Rattle.wal_record.specs.declared.record.Body.{Body}
use Rattle.wal_record.specs.declared.record.Body.TheVariants.{Image, Delta}
use Rattle.wal_record.specs.declared.record.Kind.TheVariants.{Shutdown, Online, RedoMark, NoOp, BackupEnd, Images, Generic, Create, Truncate, Commit}
use Rattle.wal_record.specs.Spelling.{IsWritableBody, IsWritableBlock}
use Rattle.wal_record.specs.Sound.{IsSoundBody, IsSoundBlock}
use Rattle.history.specs.Applied.{IsApplicableBody, IsApplicableBlock}
use Rattle.history.specs.Laws.{SoundMayBeApplied, WritableMayBeApplied}
use Rattle.history.proofs.Pushes.{all_weaker}

sound_body : (body : Body) → IsSoundBody body → IsApplicableBody body
sound_body (Image page) sound = tt
sound_body (Delta frags) sound = sound

sound_block : (b : BlockRef) → IsSoundBlock b → IsApplicableBlock b
sound_block b sound = record { number = sound.number; body = sound_body b.body sound.body }

pub sound_may : SoundMayBeApplied
sound_may (Shutdown redo) sound = All-nil IsApplicableBlock
sound_may (Online redo) sound = All-nil IsApplicableBlock
sound_may (RedoMark n) sound = All-nil IsApplicableBlock
sound_may NoOp sound = All-nil IsApplicableBlock
sound_may (BackupEnd start) sound = All-nil IsApplicableBlock
sound_may (Images blocks) sound = all_weaker IsSoundBlock IsApplicableBlock blocks sound_block sound.0
sound_may (Generic blocks) sound = all_weaker IsSoundBlock IsApplicableBlock blocks sound_block sound
sound_may (Create fork) sound = All-nil IsApplicableBlock
sound_may (Truncate rel count flags) sound = All-nil IsApplicableBlock
sound_may (Commit time rels) sound = All-nil IsApplicableBlock

writable_body : (body : Body) → IsWritableBody body → IsApplicableBody body
writable_body (Image page) w = tt
writable_body (Delta frags) w = w

writable_block : (b : BlockRef) → IsWritableBlock b → IsApplicableBlock b
writable_block b w = record { number = w.number; body = writable_body b.body w.body }

pub writable_may : WritableMayBeApplied
writable_may (Shutdown redo) w = All-nil IsApplicableBlock
writable_may (Online redo) w = All-nil IsApplicableBlock
writable_may (RedoMark n) w = All-nil IsApplicableBlock
writable_may NoOp w = All-nil IsApplicableBlock
writable_may (BackupEnd start) w = All-nil IsApplicableBlock
writable_may (Images blocks) w = all_weaker IsWritableBlock IsApplicableBlock blocks writable_block w.0.each
writable_may (Generic blocks) w = all_weaker IsWritableBlock IsApplicableBlock blocks writable_block w.each
writable_may (Create fork) w = All-nil IsApplicableBlock
writable_may (Truncate rel count flags) w = All-nil IsApplicableBlock
writable_may (Commit time rels) w = All-nil IsApplicableBlock
