use Rattle.std.proofs.Common.{◌+◌, length, sym, ◌∙◌, subst}
use Rattle.std.proofs.lemmas.List.{take_rest}
use Rattle.std.proofs.Math.Seq.{drop-length}
use Rattle.memchr.specs.Find.{IsFirstByte, is_byte}
use Rattle.sws_proxy.proofs.CutLemmas.{found, missing}
use Rattle.sws_proxy.proofs.line.cut.Goals as goal

pub returns-in-Some-clause-before : goal.returns-in-Some-clause-before
returns-in-Some-clause-before c = sym (found c.args.byte c.args.text.now c.in-Some.at (subst (IsFirstByte (is_byte c.args.byte) c.args.text.now) c.in-Some.is c.memchr.ensures)).0

pub returns-in-Some-clause-behind : goal.returns-in-Some-clause-behind
returns-in-Some-clause-behind c = take_rest c.args.text.now (c.in-Some.at + 1) ∙ sym (found c.args.byte c.args.text.now c.in-Some.at (subst (IsFirstByte (is_byte c.args.byte) c.args.text.now) c.in-Some.is c.memchr.ensures)).1

pub returns-in-None-clause-before : goal.returns-in-None-clause-before
returns-in-None-clause-before c = sym (missing c.args.byte c.args.text.now (subst (IsFirstByte (is_byte c.args.byte) c.args.text.now) c.in-None.is c.memchr.ensures)).0

pub returns-in-None-clause-behind : goal.returns-in-None-clause-behind
returns-in-None-clause-behind c = take_rest c.args.text.now (length c.args.text.now) ∙ drop-length c.args.text.now ∙ sym (missing c.args.byte c.args.text.now (subst (IsFirstByte (is_byte c.args.byte) c.args.text.now) c.in-None.is c.memchr.ensures)).1
