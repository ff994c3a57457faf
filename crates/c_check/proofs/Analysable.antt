-- What follows of a source being that of a text.
use Rattle.std.proofs.Common.{◌≡◌, sym, ap, ◌∙◌, subst, ℕ, List, []}
use Rattle.gob_tree.specs.Formed.{IsFormed}
use Rattle.gob_tree.specs.WellMade.{IsWellMade}
use Rattle.gob_tree.specs.Words.{HasWordNames}
use Rattle.gob_tree.specs.declared.graph.Program.{Program}
use Rattle.gob_tree.specs.declared.unit.Unit.{Unit as TranslationUnit}
use Rattle.c_meaning.specs.Graph.{program_of}
use Rattle.c_parse.specs.declared.raw.unit.RawUnit.{RawUnit}
use Rattle.c_source.specs.Sources.{IsAnalysable}
use Rattle.c_source.specs.declared.source.Source.{Source}
use Rattle.graph_law.specs.Forming.{IsWithinSizes}
use Rattle.c_check.specs.Front.{Reads, IsSourceOf, tree_faults}
use Rattle.c_check.specs.Units.{unit_faults, unit_of}
use Rattle.c_check.proofs.FrontPhases.{reads_spelled}
use Rattle.c_check.proofs.FrontSizes.{within_sizes, tree_formed}
use Rattle.c_check.proofs.WellMade.{made_unit}
use Rattle.c_check.proofs.WellMadeNames.{nil_left}
use Rattle.c_check.proofs.WordNames.{tree_words}

-- the unit and the program of a tree that was read and has no fault
pub tree_analysable : (text : List ℕ) (raw : RawUnit) (source : Source) → Reads text raw → tree_faults raw ≡ [] → source.unit ≡ unit_of raw → source.program ≡ program_of (unit_of raw) → IsAnalysable source
tree_analysable text raw source read none unit_is program_is =
    let spelled = reads_spelled text raw read in
    record {
      made = subst (λ (u : TranslationUnit). IsWellMade u) (sym unit_is) (made_unit raw spelled (nil_left (unit_faults raw) _ none));
      sizes = subst (λ (u : TranslationUnit). IsWithinSizes u) (sym unit_is) (within_sizes raw none);
      program = program_is ∙ ap (λ (u : TranslationUnit). program_of u) (sym unit_is);
      formed = subst (λ (p : Program). IsFormed p) (sym program_is) (tree_formed raw spelled none);
      names = subst (λ (p : Program). HasWordNames p) (sym program_is) (tree_words raw spelled);
    }

pub source_analysable : (text : List ℕ) (source : Source) → IsSourceOf text source → IsAnalysable source
source_analysable text source is = tree_analysable text is.raw source is.read is.no_fault is.unit_is is.program_is
