-- What a piece makes of what was read before it.
use Rattle.std.specs.Prelude.{ℕ, ◌-◌, ◌≤◌, List, ◌∷◌, ◌++◌, length, take}
use Rattle.dap_frame.specs.declared.header.Header.{Header}
use Rattle.dap_frame.specs.declared.scan.Scan.{Scan}
use Rattle.dap_frame.specs.declared.advance.Progress.{Progress}
use Rattle.dap_frame.specs.declared.advance.Progress.TheVariants.{Grows, Reads, Fills}
use Rattle.dap_frame.specs.Part.{IsUnfinished}
use Rattle.dap_frame.specs.Scan.{contents, places, LeadsTo}

-- the first missing bytes of the piece fill the content
pub record FillsContent (origin : ℕ) (header : Header) (rest piece : List ℕ) (missing : ℕ) (scan : Scan) : Type 0 where
  pub leads : LeadsTo origin header rest piece ((rest ++ take missing piece) ∷ contents scan.messages.items)
      ((origin - length rest) ∷ places scan.messages.items) scan
  pub within : missing ≤ length piece

-- the piece begins at the place `origin`
abbrev pub IsProgress : ℕ → Header → List ℕ → List ℕ → Progress → Type 0
IsProgress origin header rest piece Grows = IsUnfinished header (rest ++ piece)
IsProgress origin header rest piece (Reads scan) = LeadsTo origin header rest piece (contents scan.messages.items) (places scan.messages.items) scan
IsProgress origin header rest piece (Fills missing scan) = FillsContent origin header rest piece missing scan
