-- A connection before its first step.
use Rattle.std.specs.Prelude.{ℕ, zero, suc, ◌+◌, ◌*◌, Bool, Option, Some, None, List, [], ◌∷◌}
use Rattle.sides.specs.declared.side.Side.TheVariants.{A, B}
use Rattle.link_script.specs.declared.script.PathLine.{PathLine}
use Rattle.link_script.specs.declared.script.Script.{Script}
use Rattle.link_script.specs.declared.script.ScriptLine.{ScriptLine}
use Rattle.key_material.specs.Drawing.{drawn_word}
use Rattle.key_material.specs.KeyDigest.{idsn_of}
use Rattle.actor_desk.specs.Books.{unasked}
use Rattle.actor_desk.specs.Desk.{opened_books}
use Rattle.stream_apps.specs.Starts.{fast_close_of, first_app_turn}
use Rattle.path_core.specs.Start.{PathStart, key_of, first_turn}
use Rattle.world_laws.specs.declared.member.Member.TheVariants.{App, Path}
use Rattle.world_laws.specs.Actors.{Actor, ActorCrew}
use Rattle.world_laws.specs.Worlds.{WorldState}

-- what is said of a path, and what the seed draws for it
pub record PathPlan : Type 0 where
  -- octets of the maximum segment size
  pub mss : ℕ
  -- ticks that a segment is under way
  pub delay : ℕ
  -- the tick from which it joins the connection; path 0 opens it
  pub join : ℕ
  pub backup : Bool
  -- initial sequence numbers and nonces of its ends
  pub initial_a : ℕ
  pub initial_b : ℕ
  pub nonce_a : ℕ
  pub nonce_b : ℕ

-- what a connection begins with
pub record Start : Type 0 where
  -- octets that each side buffers
  pub buffer : ℕ
  pub checksums : Bool
  -- data numbers of four octets
  pub short : Bool
  -- the seed of the words that links draw
  pub seed : ℕ
  pub key_a : ℕ
  pub key_b : ℕ
  -- path i is the i-th, the first being 0
  pub paths : List PathPlan
  pub lines : List ScriptLine
  -- what each side writes
  pub file_a : List ℕ
  pub file_b : List ℕ

-- ---- by a script

-- path i has the streams 1 + 2i and 2 + 2i of the seed
abbrev pub plan_of : Script → ℕ → PathLine → PathPlan
plan_of script number line = record {
  mss = line.mss;
  delay = line.delay;
  join = line.join;
  backup = line.backup;
  initial_a = drawn_word script.seed (1 + 2 * number) 0;
  initial_b = drawn_word script.seed (2 + 2 * number) 0;
  nonce_a = drawn_word script.seed (1 + 2 * number) 1;
  nonce_b = drawn_word script.seed (2 + 2 * number) 1;
}

-- the paths of these lines, the first of which has this number
abbrev pub plans_from : Script → ℕ → List PathLine → List PathPlan
plans_from script number [] = []
plans_from script number (line ∷ lines) = plan_of script number line ∷ plans_from script (suc number) lines

-- a connection by a script, with its files
abbrev pub start_of : Script → List ℕ → List ℕ → Start
start_of script file_a file_b = record {
  buffer = script.buffer;
  checksums = script.checksum;
  short = script.short;
  seed = script.seed;
  key_a = key_of script.seed 0;
  key_b = key_of script.seed 2;
  paths = plans_from script 0 script.paths;
  lines = script.lines;
  file_a = file_a;
  file_b = file_b;
}

-- ---- the paths

-- path 0 joins nothing
abbrev pub joins_at : ℕ → ℕ → Option ℕ
joins_at zero tick = None
joins_at (suc number) tick = Some tick

-- what the path of this number begins with
abbrev pub path_begins : Start → ℕ → PathPlan → PathStart
path_begins start number plan = record {
  profile = record {
    mss = plan.mss;
    buffer = start.buffer;
    backup = plan.backup;
    spelling = record {
      path = number;
      a = record { initial = record { 0 = plan.initial_a }; idsn = record { 0 = idsn_of start.key_a } };
      b = record { initial = record { 0 = plan.initial_b }; idsn = record { 0 = idsn_of start.key_b } };
      checksums = start.checksums;
      short = start.short;
    };
  };
  drawn = record {
    initial_a = plan.initial_a;
    initial_b = plan.initial_b;
    nonce_a = plan.nonce_a;
    nonce_b = plan.nonce_b;
    key_a = start.key_a;
    key_b = start.key_b;
  };
  delay = plan.delay;
  seed = start.seed;
  joined_at = joins_at number plan.join;
}

-- ---- the world

module _ {C : Type 0} where
  -- an actor that has made no step
  abbrev pub new_crew : ℕ → Actor C → ActorCrew C
  new_crew number member = record {
    member = member;
    pass = record { actor = number; stamp = 0 };
    list = [];
    refused = None;
  }

  -- the path of this number
  abbrev pub new_path : Start → ℕ → PathPlan → ActorCrew C
  new_path start number plan = new_crew (2 + number) (Path (first_turn (path_begins start number plan) start.lines))

  -- the paths of these plans, of which the first has this number
  abbrev pub paths_from : Start → ℕ → List PathPlan → List (ActorCrew C)
  paths_from start number [] = []
  paths_from start number (plan ∷ plans) = new_path start number plan ∷ paths_from start (suc number) plans

  -- the two applications, and the paths
  abbrev pub opened_world : Start → WorldState C
  opened_world start = record {
    crew = new_crew 0 (App (first_app_turn A start.buffer start.file_a (fast_close_of A start.lines)))
        ∷ new_crew 1 (App (first_app_turn B start.buffer start.file_b (fast_close_of B start.lines))) ∷ paths_from start 0 start.paths;
    books = unasked (opened_books start.buffer start.key_a start.key_b);
  }
