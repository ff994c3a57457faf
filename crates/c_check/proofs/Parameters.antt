-- Parameters one after the other.
use Rattle.std.proofs.Common.{◌≡◌, sym, ap, ◌∙◌, subst, List, [], ◌∷◌, ◌++◌}
use Rattle.c_parse.specs.declared.raw.unit.RawParam.{RawParam}
use Rattle.c_check.specs.declared.fault.FrontFault.{FrontFault}
use Rattle.c_check.specs.Faults.{IsFirst}
use Rattle.c_check.specs.Names.{BodyNames}
use Rattle.c_check.specs.Units.{with_param, with_params, param_faults, params_faults}
use Rattle.c_check.proofs.Firsts.{first_left}

-- `ps` are the parameters from one on, where `b` is declared
pub record ParamsFrom (all ps : List RawParam) (start b : BodyNames) : Type 0 where
  pub faults : params_faults all start ≡ params_faults ps b
  pub after : with_params all start ≡ with_params ps b

pub params_fault : (fault : FrontFault) (all ps rest : List RawParam) (p : RawParam) (start b : BodyNames) → ParamsFrom all ps start b → ps ≡ p ∷ rest
    → IsFirst fault (param_faults p.name b) → IsFirst fault (params_faults all start)
params_fault fault all ps rest p start b i is h =
    subst (λ (fs : List FrontFault). IsFirst fault fs) (sym (i.faults ∙ ap (λ (x : List RawParam). params_faults x b) is))
    (first_left fault _ (params_faults rest (with_param p.width p.name b)) h)

pub params_next : (all ps rest : List RawParam) (p : RawParam) (start b next : BodyNames) → ParamsFrom all ps start b → ps ≡ p ∷ rest
    → (param_faults p.name b ≡ []) × (next ≡ with_param p.width p.name b) → ParamsFrom all rest start next
params_next all ps rest p start b next i is h = record {
  faults =
      i.faults ∙ ap (λ (x : List RawParam). params_faults x b) is
      ∙ ap (λ (fs : List FrontFault). fs ++ params_faults rest (with_param p.width p.name b)) h.0
      ∙ ap (λ (x : BodyNames). params_faults rest x) (sym h.1);
  after = i.after ∙ ap (λ (x : List RawParam). with_params x b) is ∙ ap (λ (x : BodyNames). with_params rest x) (sym h.1);
}

pub params_end : (all ps : List RawParam) (start b : BodyNames) → ParamsFrom all ps start b → ps ≡ [] → (params_faults all start ≡ []) × (b ≡ with_params all start)
params_end all ps start b i is =
    (i.faults ∙ ap (λ (x : List RawParam). params_faults x b) is, sym (i.after ∙ ap (λ (x : List RawParam). with_params x b) is))
