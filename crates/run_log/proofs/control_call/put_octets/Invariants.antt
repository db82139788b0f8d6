use Rattle.run_log.proofs.Words.{◌≡◌, ◌∷◌, ◌++◌, drop, string_bytes, decimal, flat_map}
use Rattle.run_log.proofs.control_call.put_octets.Given as goal

abbrev pub invariant-loop-octet : goal.invariant-loop-octet
invariant-loop-octet l = string_bytes l.text ++ flat_map (λ octet. 32 ∷ decimal octet) (drop l.octet-index l.octets) ≡ string_bytes l.fn.text ++ flat_map (λ octet. 32 ∷ decimal octet) l.octets
