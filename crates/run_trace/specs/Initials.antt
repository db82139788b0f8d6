-- The initial sequence numbers of the paths of a run.
use Rattle.std.specs.Prelude.{◌%◌, ◌^◌, List, [], ◌∷◌}
use Rattle.link_script.specs.declared.script.Script.{Script}
use Rattle.link_trace.specs.declared.carried.PathInitials.{PathInitials}
use Rattle.world_laws.specs.Openings.{PathPlan, plans_from}

-- as the 32 bits of a segment tell them
abbrev pub plan_initials : PathPlan → PathInitials
plan_initials plan = record { a = plan.initial_a % 2 ^ 32; b = plan.initial_b % 2 ^ 32 }

-- the initial numbers of each path, path 0 first
abbrev pub initials_of : List PathPlan → List PathInitials
initials_of [] = []
initials_of (plan ∷ plans) = plan_initials plan ∷ initials_of plans

-- the initial numbers of each path of a script, path 0 first
abbrev pub initials_in : Script → List PathInitials
initials_in script = initials_of (plans_from script 0 script.paths)
