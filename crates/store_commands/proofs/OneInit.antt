-- A new store has one answer.
use Rattle.std.proofs.Common.{◌≡◌, ℕ, Result, Ok, Err, IsSome, refl, sym, ap, ◌∙◌, true}
use Rattle.lsn_core.specs.declared.lsn.Lsn.{Lsn}
use Rattle.lsn_core.specs.Segment.{StoreSettings}
use Rattle.vault.specs.declared.lending.TakeFault.{TakeFault}
use Rattle.store_commands.specs.declared.new_store.InitFault.{InitFault}
use Rattle.store_commands.specs.declared.new_store.InitFault.TheVariants as init
use Rattle.command_base.specs.Areas.{wal_name, sums_name}
use Rattle.store_commands.specs.Init.{first_entry, InitAreas, InitAnswer, init_status}
use Rattle.command_base.specs.Decided.{is_decided}
use Rattle.store_commands.specs.Laws.{HasOneInit}
use Rattle.command_base.proofs.Decided.{clear_or_not, undecided}

made_to : ℕ → Result Lsn InitFault
made_to end = Ok (record { 0 = end })

-- two answers, with settings of one segment size, where both areas are told
init_once : (s t : StoreSettings) (Untaken Also : TakeFault → Type 0) (old new other : InitAreas) (a b : Result Lsn InitFault) → s.segment ≡ t.segment → IsSome old.wal.files → IsSome old.sums.files → InitAnswer s Untaken old new a → InitAnswer t Also old other b
    → is_decided (init_status a) ≡ true → is_decided (init_status b) ≡ true → a ≡ b
unfolding made_to
init_once s t Untaken Also old new other (Err (init.Site f)) b size wal sums first second own also = absurd (undecided f.why own)
init_once s t Untaken Also old new other (Err (init.Wal f)) b size wal sums first second own also = absurd (undecided f own)
init_once s t Untaken Also old new other (Err (init.Sums f)) b size wal sums first second own also = absurd (undecided f own)
init_once s t Untaken Also old new other (Ok a) (Err (init.Site g)) size wal sums first second own also = absurd (undecided g.why also)
init_once s t Untaken Also old new other (Ok a) (Err (init.Wal g)) size wal sums first second own also = absurd (undecided g also)
init_once s t Untaken Also old new other (Ok a) (Err (init.Sums g)) size wal sums first second own also = absurd (undecided g also)
init_once s t Untaken Also old new other (Ok a) (Ok b) size wal sums first second own also =
    ap made_to (first.end_is ∙ ap (λ (n : ℕ). (first_entry n).end.0) size ∙ sym second.end_is)
init_once s t Untaken Also old new other (Ok a) (Err init.AlreadyInit) size wal sums first second own also = absurd (clear_or_not old.wal wal first.wal_clear second.0)
init_once s t Untaken Also old new other (Ok a) (Err init.SumsNotEmpty) size wal sums first second own also = absurd (clear_or_not old.sums sums first.sums_clear second.1)
init_once s t Untaken Also old new other (Err init.AlreadyInit) (Err (init.Site g)) size wal sums first second own also = absurd (undecided g.why also)
init_once s t Untaken Also old new other (Err init.AlreadyInit) (Err (init.Wal g)) size wal sums first second own also = absurd (undecided g also)
init_once s t Untaken Also old new other (Err init.AlreadyInit) (Err (init.Sums g)) size wal sums first second own also = absurd (undecided g also)
init_once s t Untaken Also old new other (Err init.AlreadyInit) (Ok b) size wal sums first second own also = absurd (clear_or_not old.wal wal second.wal_clear first.0)
init_once s t Untaken Also old new other (Err init.AlreadyInit) (Err init.AlreadyInit) size wal sums first second own also = refl
init_once s t Untaken Also old new other (Err init.AlreadyInit) (Err init.SumsNotEmpty) size wal sums first second own also = absurd (clear_or_not old.wal wal second.0 first.0)
init_once s t Untaken Also old new other (Err init.SumsNotEmpty) (Err (init.Site g)) size wal sums first second own also = absurd (undecided g.why also)
init_once s t Untaken Also old new other (Err init.SumsNotEmpty) (Err (init.Wal g)) size wal sums first second own also = absurd (undecided g also)
init_once s t Untaken Also old new other (Err init.SumsNotEmpty) (Err (init.Sums g)) size wal sums first second own also = absurd (undecided g also)
init_once s t Untaken Also old new other (Err init.SumsNotEmpty) (Ok b) size wal sums first second own also = absurd (clear_or_not old.sums sums second.sums_clear first.1)
init_once s t Untaken Also old new other (Err init.SumsNotEmpty) (Err init.AlreadyInit) size wal sums first second own also = absurd (clear_or_not old.wal wal first.0 second.0)
init_once s t Untaken Also old new other (Err init.SumsNotEmpty) (Err init.SumsNotEmpty) size wal sums first second own also = refl

pub one_init : HasOneInit
one_init options old new other a b told first second own also =
    init_once _ _ _ _ _ _ _ a b refl (told.files wal_name) (told.files sums_name) first.1.2 second.1.2 own also
