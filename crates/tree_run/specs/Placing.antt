-- Where a step is made, as the definition sees it.
use Rattle.std.specs.Prelude.{List, map}
use Rattle.c_meaning.specs.Config.{Config}
use Rattle.c_meaning.specs.Tree as Tree
use Rattle.c_meaning.specs.Tree.{Site}
use Rattle.tree_run.specs.declared.deed.Here.{Here}
use Rattle.tree_run.specs.Framing.{shown}
use Rattle.tree_run.specs.Deeds.{stack_of}

abbrev pub config_here : Here → Config Tree.Frame
config_here h = record { globals = h.globals.now; owners = h.owners.now; threads = map (λ v. stack_of v.items) h.threads.now }

abbrev pub site_of : Here → List Tree.Frame → Site
site_of h below = record { unit = h.unit.now; config = config_here h; thread = h.thread; input = h.input; frame = shown h.frame.now; below = below }
