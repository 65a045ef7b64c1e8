use Rattle.std.proofs.Common.{string_bytes, true, refl}
use Rattle.std.proofs.lemmas.Map.Text.{btree_set_updates_text}
use Rattle.vault_os.proofs.walk.Walk.add_file.Goals as goal

pub returns : goal.returns
returns c = record { unread = refl; files = btree_set_updates_text (string_bytes c.args.path) c.args.self.now.files c.insert.new.self true c.in_ok-insert.ensures.updates }
