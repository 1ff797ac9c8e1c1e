-- One value, so many times.
use Rattle.std.proofs.Common.{ℕ, sym}
use lib.ListN.{length-replicate}
use Rattle.test_admission.proofs.lists.list_space.Goals as goal

pub returns : goal.returns
returns c = sym (length-replicate {A = ℕ} 400000 0)
