use Rattle.backup_laws.proofs.Gaps.{one_list, published_kept, old_expire, gaps_old, answers_covered, refused_gaps_old}
use Rattle.backup_laws.proofs.laws.gaps_are_old.Goals as goal

pub returns-clause-one_list : goal.returns-clause-one_list
returns-clause-one_list g c = one_list

pub returns-clause-kept : goal.returns-clause-kept
returns-clause-kept g c = published_kept

pub returns-clause-expire : goal.returns-clause-expire
returns-clause-expire g c = old_expire

pub returns-clause-old : goal.returns-clause-old
returns-clause-old g c = gaps_old g.V.Vault

pub returns-clause-covered : goal.returns-clause-covered
returns-clause-covered g c = answers_covered g.V.Vault

pub returns-clause-refused : goal.returns-clause-refused
returns-clause-refused g c = refused_gaps_old g.V.Vault
