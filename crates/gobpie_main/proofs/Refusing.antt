-- Why a text has no lines.
use Rattle.std.proofs.Common.{◌≡◌, ◌<◌, ℕ, List, length, subst, sym, Err as Bad}
use Rattle.c_lex.specs.declared.TheConstants.{TEXT_LIMIT}
use Rattle.c_lex.specs.declared.fault.LexFault.TheVariants as lexing
use Rattle.c_source.specs.declared.source.Source.{Source}
use Rattle.c_check.specs.Faults.{fault_at, whole_text}
use Rattle.c_check.specs.Front.{IsSourceOf, in_tokens}
use Rattle.c_check.specs.declared.fault.FrontFault.{FrontFault}
use Rattle.c_check.specs.declared.fault.FrontKind.TheVariants.{TooLong}
use Rattle.gobpie_main.specs.Analyse.{IsAnalysisOf}
use Rattle.gobpie_main.specs.Loading.{IsRefusedBy, IsSourceFault}
use Rattle.gobpie_main.specs.Run.{IsRunOf, IsScheduleFault}
use Rattle.gobpie_main.specs.declared.fault.Fault.{Fault}
use Rattle.gobpie_main.specs.declared.fault.Fault.TheVariants.{Usage, ReadFault, Refused, BadLine, Spent, Memory}

-- a text over the limit is refused
pub too_long_is_refused : (text : List ℕ) (fault : FrontFault) → TEXT_LIMIT < length text → fault ≡ fault_at TooLong whole_text → IsRefusedBy text fault
too_long_is_refused text fault long is =
    subst (λ (f : FrontFault). IsRefusedBy text f) (sym is) (record { first = in_tokens lexing.TooLong long; of_the_text = λ kind. absurd (cc kind) })

-- what refuses a text refuses its analysis
pub refused_analysis : (text : List ℕ) (budget : ℕ) (fault : Fault) → IsSourceFault text fault → IsAnalysisOf text budget (Bad fault)
refused_analysis text budget Usage is = is
refused_analysis text budget ReadFault is = is
refused_analysis text budget (Refused fault) is = is
refused_analysis text budget (BadLine line) is = is
refused_analysis text budget (Spent turns) is = absurd is
refused_analysis text budget Memory is = tt

-- and its run
pub refused_run : (text schedule : List ℕ) (fault : Fault) → IsSourceFault text fault → IsRunOf text schedule (Bad fault)
refused_run text schedule Usage is = is
refused_run text schedule ReadFault is = is
refused_run text schedule (Refused fault) is = is
refused_run text schedule (BadLine line) is = absurd is
refused_run text schedule (Spent turns) is = is
refused_run text schedule Memory is = tt

-- of a text that isn't refused, what refuses the schedule refuses the run
pub refused_schedule : (text schedule : List ℕ) (source : Source) (fault : Fault) → IsSourceOf text source → IsScheduleFault schedule fault → IsRunOf text schedule (Bad fault)
refused_schedule text schedule source Usage of_text is = is
refused_schedule text schedule source ReadFault of_text is = is
refused_schedule text schedule source (Refused fault) of_text is = absurd is
refused_schedule text schedule source (BadLine line) of_text is = (source, of_text, is)
refused_schedule text schedule source (Spent turns) of_text is = is
refused_schedule text schedule source Memory of_text is = tt
