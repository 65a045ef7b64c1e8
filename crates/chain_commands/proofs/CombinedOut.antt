-- What joining members comes to, by what each of its parts did.
use Rattle.std.proofs.Common.{◌≡◌, ◌≢◌, ℕ, ◌≤◌, inl, inr, List, length, Option, IfSome, Ok, Err, refl, sym, subst, ◌∙◌, arith}
use Rattle.std.specs.FinMap.{empty}
use Rattle.lsn_core.specs.Causes.{Rose}
use Rattle.lsn_core.specs.Files.{Files}
use Rattle.lsn_core.specs.declared.fault.AreaFault.TheVariants.{Failed}
use Rattle.vault.specs.declared.area.Vault.{Ghosts}
use Rattle.vault.specs.declared.lending.Held.{Held}
use Rattle.vault.specs.Lending.{Names}
use Rattle.manifest.specs.Listing.{Listing}
use Rattle.backup_files.specs.Area.{EndsSynced, HoldsNothing, HoldsSomething}
use Rattle.chain_check.specs.Directory.{IsAsListed}
use Rattle.chain_check.specs.declared.member.Member.{Member}
use Rattle.chain_files.specs.Sources.{OfChain}
use Rattle.chain_files.specs.Told.{chain_told, faults_at, AllOnlyRead}
use Rattle.chain_files.proofs.Told.{reads_told}
use Rattle.directory_files.specs.Relisted.{other_rows}
use Rattle.combine.specs.Combined.{EndsWith, IsCombined}
use Rattle.combine.specs.Calls.{KeepsOut, LeavesManifest}
use Rattle.combine.specs.declared.fault.CombineFault.{CombineFault as Uncombined}
use Rattle.combine.specs.declared.fault.CombineFault.TheVariants as uncombined
use Rattle.merge_laws.specs.Merged.{BeginsWith, IsMerged}
use Rattle.chain_commands.specs.declared.chain.Joining.{Joining}
use Rattle.chain_commands.specs.declared.chain.Joining.TheVariants as join
use Rattle.chain_commands.specs.declared.combining.CombineReport.{CombineReport}
use Rattle.backup_files.proofs.Synced.{synced_is_durable}
use Rattle.chain_commands.specs.Chain.{files_told, IsJoinedTo}
use Rattle.chain_commands.specs.Joined.{CombineSeen, combine_report, HoldsJoined, IsListable, IsUnlistable}
use Rattle.chain_commands.specs.Inner.{AreOwnPlaces, areas_at, combine_seen_in, combine_fault, Joins, JoinCause, ListsJoined, AnswersJoin}
use Rattle.chain_commands.proofs.RestoredOut.{chain_is, member_fails}

module _ {V : Type 0} (g : Ghosts V) where
  -- ---- of a chain, and of a series

  abbrev Cause : Joining → List ℕ → Listing → List (Held V) → V → List (Held V) → V → Uncombined → Type 0
  Cause joining places m areas out areas_now out_now why = JoinCause g joining places m areas out areas_now out_now why

  by_full : (joining : Joining) (places : List ℕ) (m : Listing) (areas : List (Held V)) (out : V) (areas_now : List (Held V)) (out_now : V) → Cause joining places m areas out areas_now out_now uncombined.NotEmpty → HoldsSomething (g.files out)
  by_full join.Chain places m areas out areas_now out_now cause = cause
  by_full join.Series places m areas out areas_now out_now cause = cause

  by_unlisted : (joining : Joining) (places : List ℕ) (m : Listing) (areas : List (Held V)) (out : V) (areas_now : List (Held V)) (out_now : V) → Cause joining places m areas out areas_now out_now uncombined.Unlisted → IsUnlistable joining (chain_told g areas places) m × HoldsNothing (g.files out)
  by_unlisted join.Chain places m areas out areas_now out_now cause = cause
  by_unlisted join.Series places m areas out areas_now out_now cause = cause

  by_member : (joining : Joining) (places : List ℕ) (m : Listing) (areas : List (Held V)) (out : V) (areas_now : List (Held V)) (out_now : V) (area : ℕ) → Cause joining places m areas out areas_now out_now (uncombined.MemberFailed area) → Rose (faults_at g areas area) (faults_at g areas_now area)
  by_member join.Chain places m areas out areas_now out_now area cause = cause
  by_member join.Series places m areas out areas_now out_now area cause = cause

  by_out : (joining : Joining) (places : List ℕ) (m : Listing) (areas : List (Held V)) (out : V) (areas_now : List (Held V)) (out_now : V) → Cause joining places m areas out areas_now out_now uncombined.OutFailed → Rose (g.faults out) (g.faults out_now)
  by_out join.Chain places m areas out areas_now out_now cause = cause
  by_out join.Series places m areas out areas_now out_now cause = cause

  holds_there : (joining : Joining) (when : ℕ) (old new : CombineSeen) (places : List ℕ) (areas : List (Held V)) (out : V) (newest : Member) (count : ℕ) → chain_told g areas places ≡ files_told old.members → g.files out ≡ new.out.files
      → Joins g joining places newest when areas out count → HoldsJoined joining when old new newest count
  holds_there join.Chain when old new places areas out newest count told stands is =
      subst (λ (f : Option Files). OfChain (files_told old.members) (λ chain. (last : Files) → EndsWith chain last → IsAsListed last newest → IfSome f (IsCombined chain last newest.manifest when count))) stands
      (subst (λ (o : Option (List Files)). OfChain o (λ chain. (last : Files) → EndsWith chain last → IsAsListed last newest → IfSome (g.files out) (IsCombined chain last newest.manifest when count))) told is)
  holds_there join.Series when old new places areas out newest count told stands is =
      subst (λ (f : Option Files). OfChain (files_told old.members) (λ series. (first last : Files) → BeginsWith series first → EndsWith series last → IsAsListed last newest → IfSome f (IsMerged series first last newest.manifest when count))) stands
      (subst (λ (o : Option (List Files)). OfChain o (λ series. (first last : Files) → BeginsWith series first → EndsWith series last → IsAsListed last newest → IfSome (g.files out) (IsMerged series first last newest.manifest when count))) told is)

  -- ---- the parts: the newest member was found, and then the members were joined, or weren't

  pub record Went (joining : Joining) (when : ℕ) (names : Names) (places : List ℕ) (areas : List (Held V)) (out : V) (areas_now : List (Held V)) (out_now : V) (newest : Member) : Type 0 where
    pub each : length names ≡ length places
    pub some : 1 ≤ length places
    pub own : AreOwnPlaces (length areas) places
    pub found : IsJoinedTo joining names (areas_at g areas places) newest
    pub areas_read : List (Held V)
    pub before : AllOnlyRead g areas areas_read
    pub after : AllOnlyRead g areas_read areas_now

  module _ (joining : Joining) (when : ℕ) (names : Names) (places : List ℕ) (areas : List (Held V)) (out : V) (areas_now : List (Held V)) (out_now : V) (newest : Member) (w : Went joining when names places areas out areas_now out_now newest) where
    abbrev old : CombineSeen
    old = combine_seen_in g places areas out

    abbrev new : CombineSeen
    new = combine_seen_in g places areas_now out_now

    told : chain_told g w.areas_read places ≡ files_told (areas_at g areas places)
    told = reads_told g areas w.areas_read w.before places ∙ sym (chain_is g areas places)

    holds : (count : ℕ) → Joins g joining places newest when w.areas_read out_now count → HoldsJoined joining when old new newest count
    holds count is = holds_there joining when old new places w.areas_read out_now newest count told refl is

    pub joined : (report : CombineReport) (rows : ℕ) → report ≡ combine_report newest rows → Joins g joining places newest when w.areas_read out_now rows → HoldsNothing (g.files out) → rows ≡ length (other_rows newest.manifest.files) → ListsJoined g joining places newest.manifest w.areas_read → EndsSynced g out_now
        → AnswersJoin g joining when names places areas out areas_now out_now (Ok report)
    joined report rows told_as is clear counted listable synced = record {
      newest = newest;
      chain = w.found;
      holds = record {
        clear = clear;
        listable = subst (λ (o : Option (List Files)). IsListable joining o newest.manifest) told listable;
        rows = rows;
        told = told_as;
        counted = counted;
        combined = holds rows is;
        durable = synced_is_durable g out_now synced;
      };
    }

    pub unjoined_by : (why : Uncombined) → Cause joining places newest.manifest w.areas_read out areas_now out_now why → KeepsOut g out out_now why → IfSome (g.files out) (λ m. m ≢ empty → g.files out_now ≡ g.files out)
        → LeavesManifest g ((count : ℕ) × Joins g joining places newest when w.areas_read out_now count) out out_now why → AnswersJoin g joining when names places areas out areas_now out_now (Err (combine_fault places why))
    unjoined_by uncombined.NotEmpty cause keeps full leaves =
        (record { newest = newest; chain = w.found; holds = by_full joining places newest.manifest w.areas_read out areas_now out_now cause }, keeps.0)
    unjoined_by uncombined.Unlisted cause keeps full leaves =
        let why = by_unlisted joining places newest.manifest w.areas_read out areas_now out_now cause in (
          record {
            newest = newest;
            chain = w.found;
            holds = record {
              last = omega (arith, w.each, w.some);
              clear = why.1;
              cause = subst (λ (o : Option (List Files)). IsUnlistable joining o newest.manifest) told why.0;
            };
          },
          keeps.0,
        )
    unjoined_by (uncombined.MemberFailed area) cause keeps full leaves =
        (member_fails g areas w.areas_read areas_now places area Failed w.own w.before w.after (λ e. by_member joining places newest.manifest w.areas_read out areas_now out_now area cause), full, leaves)
    unjoined_by uncombined.OutFailed cause keeps full leaves = (by_out joining places newest.manifest w.areas_read out areas_now out_now cause, full, leaves)
    unjoined_by uncombined.NoMemory cause keeps full leaves = (
      tt,
      full,
      elim leaves [
        | inl none ↦ inl none
        | inr more ↦ inr (elim more [
          | inl rose ↦ inl rose
          | inr whole ↦ inr (record { newest = newest; chain = w.found; holds = (whole.0, holds whole.0 whole.1) })
        ])
      ],
    )
