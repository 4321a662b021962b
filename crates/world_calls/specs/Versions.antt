-- Which vocabulary the histories of an engine have.
use Rattle.helpers.specs.declared.limits.HelperSet.{HelperSet}
use Rattle.helpers.specs.declared.limits.HelperSet.TheVariants.{Classes, Controllers, Queues}
use Rattle.world_calls.specs.declared.trace.Version.{Version}
use Rattle.world_calls.specs.declared.trace.Version.TheVariants.{One, Three, Two}

-- by which helpers there are: where controllers freeze too it is the second, and where CCBs have a class, the third
abbrev pub version_in : HelperSet → Version
version_in Queues = One
version_in Controllers = Two
version_in Classes = Three
