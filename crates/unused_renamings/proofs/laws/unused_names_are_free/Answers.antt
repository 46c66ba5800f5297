use Rattle.unused_renamings.proofs.Accepted as accepting
use Rattle.unused_renamings.proofs.Refused as refusing
use Rattle.unused_renamings.proofs.laws.unused_names_are_free.Goals as goal

pub returns-clause-refused : goal.returns-clause-refused
returns-clause-refused c = refusing.unused_is_refused_so

pub returns-clause-shown : goal.returns-clause-shown
returns-clause-shown c = refusing.nothing_is_hidden

pub returns-clause-accepted : goal.returns-clause-accepted
returns-clause-accepted c = accepting.unused_is_accepted
