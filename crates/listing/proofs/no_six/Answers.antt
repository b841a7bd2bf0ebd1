-- By what a grading says of its ceiling.
use Rattle.listing.proofs.NoSix as law
use Rattle.listing.proofs.no_six.Goals as goal

pub returns : goal.returns
returns c = law.no_six
