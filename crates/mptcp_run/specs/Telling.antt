-- How many rounds are enough, told for three words: the names of the script and of what A and B send.
use Rattle.std.specs.Prelude.{◌≡◌, ◌≢◌, ◌⊎◌, ◌&&◌, ℕ, if◌then◌else◌, List, [], ◌∷◌, ◌++◌, length, Option, Some, None, IfSome, codes}
use Rattle.std.specs.Fmt.{decimal}
use Rattle.outside_kit.specs.declared.port.Port.{Port}
use Rattle.outside_kit.specs.declared.port.Port.TheVariants.{Log}
use Rattle.outside_kit.specs.Calls.{Call}
use Rattle.outside_kit.specs.Calls as call
use Rattle.outside_kit.specs.Outside.{Told, HoldsAfter, HoldsPrefix}
use Rattle.run_words.specs.Lines.{Line, is_given, serial}
use Rattle.run_outside.specs.declared.status.Status.{Status}
use Rattle.run_outside.specs.Inputs.{AreFirstWithinLimits, HasValidScript, IsInputFault}
use Rattle.run_outside.specs.Loading.{InputAdds}
use Rattle.run_outside.specs.Plan.{AddsAll, AddsShort, first_loads}
use Rattle.run_outside.specs.Ports.{IsPortsFault, IsUntouched}
use Rattle.run_outside.specs.Reading.{script_of}
use Rattle.mptcp_run.specs.Enough.{rounds_enough}

-- of what is loaded that is what a line of `serial` asks for
abbrev pub loading : List ℕ → List ℕ → List ℕ → Line
loading script file_a file_b = record {
  work = serial 1;
  names = record { script = script; file_a = file_a; file_b = file_b; read_by_b = []; read_by_a = [] };
}

-- what three names ask for, none of them empty
abbrev pub loading_if_given : List ℕ → List ℕ → List ℕ → Option Line
loading_if_given script file_a file_b =
    if is_given script && (is_given file_a && is_given file_b) then Some (loading script file_a file_b) else None

-- what the words ask for; None where they aren't three names
abbrev pub telling_in : List (List ℕ) → Option Line
telling_in (script ∷ file_a ∷ file_b ∷ []) = loading_if_given script file_a file_b
telling_in words = None

-- the line that is put
abbrev pub enough_line : Option ℕ → List ℕ
enough_line (Some rounds) = decimal rounds ++ 10 ∷ []
enough_line None = codes "none\n"

abbrev pub enough_put : Option ℕ → List Call
enough_put enough = call.Put Log (enough_line enough) ∷ []

-- so many rounds are enough for the script and the files, as far as they are told
abbrev pub AreEnoughFor : (List ℕ → Option (List ℕ)) → Line → Option ℕ → Type 0
AreEnoughFor content line enough = IfSome (script_of content line) (λ script. IfSome (content line.names.file_a) (λ file_a.
    IfSome (content line.names.file_b) (λ file_b. enough ≡ rounds_enough script (length file_a) (length file_b))))

-- ---- what is answered

module _ (line : Line) (old new : Told) where
  -- the inputs are within their limits, the script is valid, and these rounds were told
  pub record WereTold (enough : Option ℕ) : Type 0 where
    pub within : AreFirstWithinLimits old.content line
    pub script : HasValidScript old.content line
    pub are : AreEnoughFor old.content line enough
    pub log : HoldsAfter (old.holds Log) (new.holds Log) (λ held. held ++ enough_line enough)
    pub others : (other : Port) → other ≢ Log → new.holds other ≡ old.holds other
    pub calls : AddsAll (first_loads line ++ enough_put enough) old.calls new.calls

  -- an input was refused, or memory was wanting for it
  pub record WereNotRead (status : Status) : Type 0 where
    pub cause : IsInputFault old.content line old.load_faults new.load_faults status
    pub untouched : IsUntouched old new
    pub calls : InputAdds line (first_loads line) old.calls new.calls status

  -- the line couldn't be put whole, or memory was wanting for it
  pub record WereNotPut (status : Status) : Type 0 where
    pub within : AreFirstWithinLimits old.content line
    pub script : HasValidScript old.content line
    pub enough : Option ℕ
    pub are : AreEnoughFor old.content line enough
    pub cause : IsPortsFault old.port_faults new.port_faults status
    pub log : HoldsPrefix (old.holds Log) (new.holds Log) (enough_line enough)
    pub others : (other : Port) → other ≢ Log → new.holds other ≡ old.holds other
    pub calls : AddsShort (first_loads line ++ enough_put enough) status old.calls new.calls

  abbrev pub WereRefused : Status → Type 0
  WereRefused status = WereNotRead status ⊎ WereNotPut status
