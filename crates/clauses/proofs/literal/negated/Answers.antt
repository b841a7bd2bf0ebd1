-- The negation of a literal fits.
use mathlib.Core.Path.{◌≡◌, ap, sym, subst, ◌∙◌}
use lib.Dec.{T}
use lib.IntN.{neg_ℤ}
use mir.Syntax.{w16}
use mir.Val.{SFits}
use Rattle.clauses.specs.Literal.{is_literal, negation}
use Rattle.clauses.proofs.Signed.{read, zero_less, literal_iff, negation_fits}
use Rattle.clauses.proofs.literal.negated.Goals as goal

pub overflow_sub-result : goal.overflow_sub-result
overflow_sub-result c =
    let tested : c.is_literal.result ≡ is_literal c.args.l = c.is_literal.ensures.exact ∙ ap is_literal (read c.args.l c.ranges.l) in
    let fits : SFits w16 (neg_ℤ c.args.l) = let l = c.args.l in
    negation_fits l ((literal_iff l).0 (subst T (sym (sym tested ∙ c.if-is_literal.true)) tt)) in
    rw (read c.args.l c.ranges.l, zero_less c.args.l) fits

pub returns-then-is_literal : goal.returns-then-is_literal
unfolding negation
returns-then-is_literal c =
    let tested : c.is_literal.result ≡ is_literal c.args.l = c.is_literal.ensures.exact ∙ ap is_literal (read c.args.l c.ranges.l) in
    let fits : SFits w16 (neg_ℤ c.args.l) = let l = c.args.l in
    negation_fits l ((literal_iff l).0 (subst T (sym (sym tested ∙ c.if-is_literal.true)) tt)) in
    let l = c.args.l in
    rw (read l c.ranges.l, zero_less l, read (neg_ℤ l) fits, ← tested, c.if-is_literal.true)

pub returns-else-is_literal : goal.returns-else-is_literal
unfolding negation
returns-else-is_literal c =
    let tested : c.is_literal.result ≡ is_literal c.args.l = c.is_literal.ensures.exact ∙ ap is_literal (read c.args.l c.ranges.l) in
    rw (← tested, c.if-is_literal.false)
