use Rattle.path_core.proofs.Words.{◌≡◌, sym, subst, ℕ, ◌+◌, ◌<◌, ◌≤◌, if◌then◌else◌, arith, ◌^◌, unwrap_or, Meaning, heard_value, copy_of, IsTakenAs, is_taken}
use Rattle.path_core.proofs.Words.{PathEnd}
use Rattle.path_core.proofs.AcksTaken.{acknowledges_so, acknowledges_sent}
use Rattle.path_core.proofs.end.PathEnd.acknowledged_by.Goals as goal

pub returns-in-Taken-clause-value : goal.returns-in-Taken-clause-value
returns-in-Taken-clause-value c =
    let copy = copy_of (heard_value c.args.heard.now) in
    subst (λ (m : Meaning). c.in-Taken.acknowledged ≡ (if is_taken m then unwrap_or copy.acknowledged 0 else 0)) (sym c.in-Taken.is)
    (sym (acknowledges_so copy c.args.self.now.tcp c.in-Taken.position c.in-Taken.acknowledged
    (subst (λ (m : Meaning). IsTakenAs m copy c.args.self.now.tcp) c.in-Taken.is c.requires)))

pub returns-in-Taken-clause-bound : goal.returns-in-Taken-clause-bound
returns-in-Taken-clause-bound c =
    let copy = copy_of (heard_value c.args.heard.now) in
    let sent : c.in-Taken.acknowledged ≤ c.args.self.now.tcp.send.nxt =
    acknowledges_sent copy c.args.self.now.tcp c.in-Taken.position c.in-Taken.acknowledged
    (subst (λ (m : Meaning). IsTakenAs m copy c.args.self.now.tcp) c.in-Taken.is c.requires) in
    let below : c.self.inside.tcp.send.nxt < 2 ^ 61 + 2 ^ 17 = subst (λ (n : ℕ). n < 2 ^ 61 + 2 ^ 17) c.nxt-sent.ensures.value c.nxt-sent.ensures.bound in
    let here : c.args.self.now.tcp.send.nxt < 2 ^ 61 + 2 ^ 17 = subst (λ (e : PathEnd). e.tcp.send.nxt < 2 ^ 61 + 2 ^ 17) c.self.view_is below in
    omega (arith, sent, here)
