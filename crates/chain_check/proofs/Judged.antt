-- What is judged of labels and of files together is what is judged of members.
use Rattle.std.proofs.Common.{◌≡◌, List, None, Result, Ok, Err, subst}
use Rattle.manifest.specs.declared.listing.FileRow.{FileRow}
use Rattle.chain_check.specs.Chain.{label_fault}
use Rattle.chain_check.specs.Inside.{HeldAnswer, LaterAnswer}
use Rattle.chain_check.specs.declared.member.Member.{Member}
use Rattle.chain_check.specs.declared.link.LinkFault.{LinkFault}
use Rattle.chain_check.specs.declared.link.LinkFault.TheVariants.{TooManyMembers, ManifestVersion, TimelineDiffers, FirstIncremental, LaterFull, SystemDiffers, WrongPrior, Overlap, NoPriorFile, NoMemory}
use Rattle.chain_check.proofs.Links.{linked}

by_files_in : (prior member : Member) (r : Result (Unit {0}) LinkFault) → label_fault prior member ≡ None → HeldAnswer prior.manifest.files member.manifest.files r → LaterAnswer prior member r
by_files_in prior member (Ok done) none is = linked prior member none is
by_files_in prior member (Err (NoPriorFile path)) none is = λ told. (none, is)
by_files_in prior member (Err TooManyMembers) none is = λ told. absurd (told is)
by_files_in prior member (Err (ManifestVersion v)) none is = λ told. absurd (told is)
by_files_in prior member (Err (TimelineDiffers v)) none is = λ told. absurd (told is)
by_files_in prior member (Err FirstIncremental) none is = λ told. absurd (told is)
by_files_in prior member (Err LaterFull) none is = λ told. absurd (told is)
by_files_in prior member (Err (SystemDiffers have expected)) none is = λ told. absurd (told is)
by_files_in prior member (Err (WrongPrior have expected)) none is = λ told. absurd (told is)
by_files_in prior member (Err (Overlap start end)) none is = λ told. absurd (told is)
by_files_in prior member (Err NoMemory) none is = λ told. absurd (told is)

pub by_files : (prior member : Member) (held rows : List FileRow) (r : Result (Unit {0}) LinkFault) → held ≡ prior.manifest.files → rows ≡ member.manifest.files → label_fault prior member ≡ None → HeldAnswer held rows r → LaterAnswer prior member r
by_files prior member held rows r e f none is =
    by_files_in prior member r none (subst (λ (x : List FileRow). HeldAnswer x member.manifest.files r) e (subst (λ (x : List FileRow). HeldAnswer held x r) f is))
