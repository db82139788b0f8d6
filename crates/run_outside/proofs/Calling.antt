-- Parts of a run that load, or bind and put, one after the other.
use Rattle.std.proofs.Common.{◌≡◌, refl, ◌∙◌, subst, List, [], ◌∷◌, ◌++◌, Result, Ok, Err, OnOk, arith}
use Rattle.outside_kit.specs.Calls.{Call}
use Rattle.outside_kit.specs.Outside.{Told}
use Rattle.run_outside.specs.declared.status.Status.{Status}
use Rattle.run_outside.specs.declared.status.Status.TheVariants.{Memory}
use Rattle.run_outside.specs.Calling.{Loads, OnlyPuts, Puts}
use Rattle.run_outside.specs.Plan.{failed, Adds, AddsAll, Ends}
use Rattle.run_outside.specs.Ports.{NeverFall, IsPortsFault}
use Rattle.run_outside.proofs.Calls.{adds_none, all_then, cut_then, cut_longer, cut_first, cut_none}
use Rattle.run_outside.proofs.PortsLemmas.{OnOk-holds, fault_after}

-- ---- nothing but binds and puts

pub only_none : (a : Told) → OnlyPuts a a
only_none a = record { unloaded = refl; counted = λ port. omega arith }

pub only_then : (a b c : Told) → OnlyPuts a b → OnlyPuts b c → OnlyPuts a c
only_then a b c p q = record {
  unloaded = q.unloaded ∙ p.unloaded;
  counted = λ port. let first = p.counted port in let second = q.counted port in omega (arith, first, second);
}

-- ---- binds and puts

-- the one call failed
pub puts_first : {X : Type 0} (call : Call) (a b : Told) (e : Status) → Ends call e → IsPortsFault a.port_faults b.port_faults e
    → NeverFall a.port_faults b.port_faults → b.load_faults ≡ a.load_faults → Adds (failed call ∷ []) a.calls b.calls → Puts {X = X} (call ∷ []) a b (Err e)
puts_first call a b e ends fault counted unloaded added = record {
  made = tt;
  cut = cut_first call [] e a.calls b.calls ends added;
  fault = fault;
  only = record { unloaded = unloaded; counted = counted };
}

-- no call was made, for want of memory
pub puts_none : {X : Type 0} (plan : List Call) (a : Told) → Puts {X = X} plan a a (Err Memory)
puts_none plan a = record {
  made = tt;
  cut = cut_none plan Memory a.calls a.calls refl (adds_none a.calls);
  fault = tt;
  only = only_none a;
}

-- a part that ended a run, as the whole has it
pub puts_longer : {X Y : Type 0} (xs ys : List Call) (a b : Told) (e : Status) → Puts {X = X} xs a b (Err e) → Puts {X = Y} (xs ++ ys) a b (Err e)
puts_longer xs ys a b e h = record {
  made = tt;
  cut = cut_longer xs ys e a.calls b.calls h.cut;
  fault = h.fault;
  only = h.only;
}

pub puts_ended : {X Y : Type 0} (xs : List Call) (a b : Told) (e : Status) → Puts {X = X} xs a b (Err e) → Puts {X = Y} xs a b (Err e)
puts_ended xs a b e h = record { made = tt; cut = h.cut; fault = h.fault; only = h.only }

-- what was answered besides is no matter
pub puts_made : {X Y : Type 0} (xs : List Call) (a b : Told) (x : X) (y : Y) → Puts xs a b (Ok x) → Puts xs a b (Ok y)
puts_made xs a b x y h = record { made = h.made; cut = tt; fault = tt; only = h.only }

-- the binds and puts of a plan, said of an equal one
pub puts_by : {X : Type 0} (xs ys : List Call) (a b : Told) (r : Result X Status) → xs ≡ ys → Puts xs a b r → Puts ys a b r
puts_by xs ys a b r same h = subst (λ plan. Puts plan a b r) same h

-- a part, and then another one
pub puts_then : {X Y : Type 0} (xs ys : List Call) (a b c : Told) (x : X) (r : Result Y Status)
    → Puts xs a b (Ok x) → Puts ys b c r → Puts (xs ++ ys) a c r
puts_then xs ys a b c x (Ok y) p q = record {
  made = all_then xs ys a.calls b.calls c.calls p.made q.made;
  cut = tt;
  fault = tt;
  only = only_then a b c p.only q.only;
}
puts_then xs ys a b c x (Err e) p q = record {
  made = tt;
  cut = cut_then xs ys e a.calls b.calls c.calls p.made q.cut;
  fault = fault_after a.port_faults b.port_faults c.port_faults e p.only.counted q.fault;
  only = only_then a b c p.only q.only;
}

-- ---- loads

-- a load failed, or what was loaded is refused
pub loads_ended : {X Y : Type 0} (xs ys : List Call) (a b : Told) (r : Result X Status) (e : Status) → Loads xs a b r → Loads {X = Y} ys a b (Err e)
loads_ended xs ys a b r e h = record { made = tt; counted = h.counted; untouched = h.untouched }

-- what is made of it is no matter
pub loads_any : {X Y : Type 0} (xs : List Call) (a b : Told) (x : X) (r : Result Y Status) → Loads xs a b (Ok x) → Loads xs a b r
loads_any xs a b x r h = record {
  made = OnOk-holds r (AddsAll xs a.calls b.calls) h.made;
  counted = h.counted;
  untouched = h.untouched;
}

pub loads_by : {X : Type 0} (xs ys : List Call) (a b : Told) (r : Result X Status) → xs ≡ ys → Loads xs a b r → Loads ys a b r
loads_by xs ys a b r same h = subst (λ plan. Loads plan a b r) same h

-- a part, and then another one
pub loads_then : {X Y : Type 0} (xs ys : List Call) (a b c : Told) (x : X) (r : Result Y Status)
    → Loads xs a b (Ok x) → Loads ys b c r → Loads (xs ++ ys) a c r
loads_then xs ys a b c x r s t = record {
  made = made r t.made;
  counted = let first = s.counted in let second = t.counted in omega (arith, first, second);
  untouched = λ port. ((t.untouched port).0 ∙ (s.untouched port).0, (t.untouched port).1 ∙ (s.untouched port).1);
}
  where
    made : {Z : Type 0} (r : Result Z Status) → OnOk r (AddsAll ys b.calls c.calls) → OnOk r (AddsAll (xs ++ ys) a.calls c.calls)
    made (Ok y) next = all_then xs ys a.calls b.calls c.calls s.made next
    made (Err e) next = tt
