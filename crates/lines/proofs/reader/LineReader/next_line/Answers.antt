use Rattle.std.proofs.Common.{◌+◌, ◌++◌, drop, ap, ◌∙◌, arith}
use Rattle.lines.specs.Forms.{written}
use Rattle.lines.specs.Reading.{message}
use Rattle.lines.proofs.Halting.{next_handed, only_line, next_refused, refused_at}
use Rattle.lines.proofs.Lining.{next_none, next_onward, rest_length, rest_within}
use Rattle.lines.proofs.reader.LineReader.next_line.Goals as goal

pub returns-then-self-clause-next : goal.returns-then-self-clause-next
returns-then-self-clause-next c = next_none _ _ c.if-self.true

pub returns-in-Some : goal.returns-in-Some
returns-in-Some c =
    let took = c.in-Some.ensures in
    let said = message c.in-Some.line in
    let next = next_handed said took.1 took.0 in
    record {
      same = took.0.same;
      next = next;
      onward = λ h. next_onward _ _ _ h next;
      answer = record { legal = took.1; stands = took.0.over ∙ ap (λ f. written said ++ drop c.line.new.self.position f) took.0.same; placed = took.2; only = λ other rest legal e. only_line other said rest _ legal took.1 e took.0.over };
    }

pub overflow_add-self : goal.overflow_add-self
overflow_add-self c = omega (arith, rest_within c.line.new.self _ c.line_len.ensures)

pub invariant_of-self : goal.invariant_of-self
invariant_of-self c = record { inside = rest_within c.line.new.self _ c.line_len.ensures }

pub returns : goal.returns
returns c =
    let h = c.in_default.ensures in
    let place = c.line.new.self.position in
    let next = ap (λ n. place + n) (rest_length c.line.new.self c.line_len.result c.line_len.ensures) ∙ next_refused h in
    record {
      same = h.moved.same;
      next = next;
      onward = λ h. next_onward _ _ _ h next;
      answer = (c.if-self.false, refused_at h);
    }
