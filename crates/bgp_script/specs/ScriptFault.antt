-- The result of reading a script.
use Rattle.std.specs.Prelude.{◌≡◌, ℕ, Result, Ok, Err}
use Rattle.bgp_script.specs.declared.script_fault.ScriptFault.{ScriptFault}
use Rattle.bgp_script.specs.declared.script_fault.ScriptFault.TheVariants.{Line, Memory}

-- the script as defined, or the number of the faulty line as defined; nothing is claimed where memory ran out
abbrev pub Answers : {A : Type 0} → Result A ScriptFault → Result A ℕ → Type 0
Answers (Ok x) defined = defined ≡ Ok x
Answers (Err (Line n)) defined = defined ≡ Err n
Answers (Err Memory) defined = Unit {0}
