-- What was parsed, as the request that its spans show.
use Rattle.std.proofs.Common.{◌≡◌, ℕ, ◌≤◌, List, length, take, map, sym, ap, subst, ◌∙◌, arith, length-take}
use Rattle.std.proofs.lemmas.List.{length-map}
use Rattle.httparse.specs.declared.spans.HeaderSpan.{HeaderSpan}
use Rattle.httparse.specs.Spans.{span_bytes, header_bytes}
use Rattle.httparse.specs.Grammar.{ReadsRequest}
use Rattle.httparse.specs.declared.spans.RequestSpans.{RequestSpans}
use Rattle.httparse.specs.Spans.{IsRequestOf, name_and_value}
use Rattle.std.proofs.lemmas.List.{drop_all}
use Rattle.sws_request.specs.Request.{SaysRequest, field_limit}

-- what was parsed, and nothing behind it, is the request that the spans show
pub SaysRequest-shown : (bytes : List ℕ) (headers : List HeaderSpan) (spans : RequestSpans) → IsRequestOf bytes headers spans → spans.len ≡ length bytes → spans.headers ≤ field_limit
    → SaysRequest bytes (record { method = span_bytes bytes spans.method; target = span_bytes bytes spans.path; minor = spans.version; fields = map (header_bytes bytes) (take spans.headers headers) })
SaysRequest-shown bytes headers spans (head, at) whole few =
    let fields = at.fields in
    record {
      head = head;
      reads = subst (ReadsRequest bytes head) (drop_all spans.len bytes (omega arith)) at.reads;
      few = (let count = sym (length-map head.fields name_and_value) ∙ ap length (sym fields) ∙ length-map (take spans.headers headers) (header_bytes bytes) in omega (arith, length-take spans.headers headers));
      says = ap (λ f. record { method = span_bytes bytes spans.method; target = span_bytes bytes spans.path; minor = spans.version; fields = f }) fields
          ∙ ap (λ m. record { method = m; target = span_bytes bytes spans.path; minor = spans.version; fields = map name_and_value head.fields }) at.method
          ∙ ap (λ t. record { method = head.method; target = t; minor = spans.version; fields = map name_and_value head.fields }) at.path
          ∙ ap (λ n. record { method = head.method; target = head.target; minor = n; fields = map name_and_value head.fields }) at.version;
    }
