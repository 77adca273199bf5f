-- What a view shows, of its fields.
use Rattle.std.specs.Prelude.{◌≤◌, length, take, map, All}
use Rattle.httparse.specs.Spans.{span_bytes, header_bytes, IsWithin, IsHeaderWithin}
use Rattle.sws_request.specs.declared.request.RequestView.TheInside.{Inside}
use Rattle.sws_request.specs.declared.request.RequestRef.TheInside.{Inside as LentInside}
use Rattle.sws_request.specs.Request.{Request, field_limit}

-- the request, as the spans cover it
abbrev pub state_of : Inside → Request
state_of view = record {
  method = span_bytes view.head.now view.method;
  target = span_bytes view.head.now view.target;
  minor = view.minor;
  fields = map (header_bytes view.head.now) (take view.fields view.spans);
}

-- each span lies in the head
pub record IsInside (view : Inside) : Type 0 where
  pub method : IsWithin (length view.head.now) view.method
  pub target : IsWithin (length view.head.now) view.target
  pub minor : view.minor ≤ 1
  pub count : view.fields ≤ field_limit
  pub spans : All (IsHeaderWithin (length view.head.now)) (take view.fields view.spans)

-- the request of a view whose spans lie in a room
abbrev pub lent_state_of : LentInside → Request
lent_state_of view = record {
  method = span_bytes view.head.now view.method;
  target = span_bytes view.head.now view.target;
  minor = view.minor;
  fields = map (header_bytes view.head.now) view.spans.now;
}

-- each of its spans lies in the head
pub record IsLentInside (view : LentInside) : Type 0 where
  pub method : IsWithin (length view.head.now) view.method
  pub target : IsWithin (length view.head.now) view.target
  pub minor : view.minor ≤ 1
  pub count : length view.spans.now ≤ field_limit
  pub spans : All (IsHeaderWithin (length view.head.now)) view.spans.now
