-- The first slash of a path.
use Rattle.std.proofs.Common.{◌≡◌, ℕ, ◌+◌, suc, Bool, true, false, ◌<◌, ◌≤◌, List, [], ◌∷◌, length, take, drop, Some, None, option_map, refl, sym, ap, subst, ◌∙◌, arith, true-eqb}
use Rattle.std.specs.Prelude.{if◌then◌else◌, ◌&&◌, codes, nat_eq, nat_le}
use Rattle.std.specs.List.{position_or_len, starts_with}
use Rattle.std.proofs.lemmas.Bool.{le-leb, lt-leb}
use Rattle.percent_encoding.specs.Percent.{percent_decode}
use Rattle.percent_encoding.proofs.PercentLemmas.{percent_decode_not_percent}
use Rattle.sws_request.specs.Head.{head_limit}
use Rattle.sws_site.specs.declared.options.SiteOptions.{SiteOptions}
use Rattle.sws_answer.specs.Targets.{path_and_query, with_slash, behind_authority, is_absolute, is_slash, path_of, ends_path, path_read, without_dot_segments, name_of, name_said_by}

IsRooted : List ℕ → Type 0
IsRooted path = path ≡ 47 ∷ drop 1 path

rooted_begins : (bytes : List ℕ) → IsRooted (with_slash bytes)
unfolding IsRooted
rooted_begins [] = refl
rooted_begins (byte ∷ bytes) = by_slash (is_slash byte) refl
  where
    by_slash : (t : Bool) → is_slash byte ≡ t → (if t then byte ∷ bytes else 47 ∷ byte ∷ bytes) ≡ 47 ∷ drop 1 (if t then byte ∷ bytes else 47 ∷ byte ∷ bytes)
    by_slash true e = ap (λ b. b ∷ bytes) (true-eqb byte 47 (sym e))
    by_slash false e = refl

starts_begins : (target : List ℕ) → starts_with nat_eq target (codes "/") ≡ true → IsRooted target
unfolding IsRooted
starts_begins [] e = absurd (cc)
starts_begins (byte ∷ bytes) e = by_test (nat_eq 47 byte) refl e
  where
    by_test : (t : Bool) → nat_eq 47 byte ≡ t → (t && true) ≡ true → byte ∷ bytes ≡ 47 ∷ bytes
    by_test true same h = ap (λ b. b ∷ bytes) (sym (true-eqb 47 byte (sym same)))
    by_test false same h = absurd (cc)

-- a path with what follows it begins with a slash
path_and_query_begins : (target path : List ℕ) → path_and_query target ≡ Some path → path ≡ 47 ∷ drop 1 path
unfolding IsRooted
path_and_query_begins target path e = by_origin (starts_with nat_eq target (codes "/")) refl e
  where
    by_absolute : (t : Bool) → (if t then Some (with_slash (behind_authority (drop 7 target))) else None) ≡ Some path → path ≡ 47 ∷ drop 1 path
    by_absolute true f = (let same : with_slash (behind_authority (drop 7 target)) ≡ path = cc in subst IsRooted same (rooted_begins (behind_authority (drop 7 target))))
    by_absolute false f = absurd (cc)

    by_origin : (t : Bool) → starts_with nat_eq target (codes "/") ≡ t
        → (if t then Some target else (if is_absolute target then Some (with_slash (behind_authority (drop 7 target))) else None)) ≡ Some path → path ≡ 47 ∷ drop 1 path
    by_origin true is f = (let same : target ≡ path = cc in subst IsRooted same (starts_begins target is))
    by_origin false is f = by_absolute (is_absolute target) f

path_of-slash : (bytes : List ℕ) → path_of (47 ∷ bytes) ≡ 47 ∷ path_of bytes
path_of-slash bytes = ap (λ n. take n (47 ∷ bytes)) (one_more (position_or_len ends_path bytes))
  where
    one_more : (n : ℕ) → 1 + n ≡ suc n
    one_more n = omega arith

-- the first slash is read first
percent_decode-slash : (bytes : List ℕ) → drop 1 (percent_decode (47 ∷ bytes)) ≡ percent_decode bytes
percent_decode-slash bytes = ap (drop 1) (percent_decode_not_percent 47 bytes (λ e. omega arith))

-- what a plain site reads
pub path_read-as_sent : (options : SiteOptions) (bytes : List ℕ) → (options.removes_dot_segments && nat_le (length (47 ∷ bytes)) head_limit) ≡ false
    → path_read options (47 ∷ bytes) ≡ percent_decode bytes
path_read-as_sent options bytes e =
    ap (λ t. if t then without_dot_segments (drop 1 (percent_decode (47 ∷ bytes))) else drop 1 (percent_decode (47 ∷ bytes))) e ∙ percent_decode-slash bytes

-- a path that is short enough, and one that isn't
pub removes-short : (removes : Bool) (bytes : List ℕ) → removes ≡ true → length bytes < 8192 → (removes && nat_le (length (47 ∷ bytes)) head_limit) ≡ true
removes-short removes bytes e short = ap (λ t. t && nat_le (length (47 ∷ bytes)) head_limit) e ∙ le-leb (length (47 ∷ bytes)) head_limit (omega arith)

pub removes-long : (removes : Bool) (bytes : List ℕ) → removes ≡ true → 8192 ≤ length bytes → (removes && nat_le (length (47 ∷ bytes)) head_limit) ≡ false
removes-long removes bytes e long = ap (λ t. t && nat_le (length (47 ∷ bytes)) head_limit) e ∙ lt-leb (length (47 ∷ bytes)) head_limit (omega arith)

pub removes-none : (removes : Bool) (bytes : List ℕ) → removes ≡ false → (removes && nat_le (length (47 ∷ bytes)) head_limit) ≡ false
removes-none removes bytes e = ap (λ t. t && nat_le (length (47 ∷ bytes)) head_limit) e

pub path_read-without : (options : SiteOptions) (bytes : List ℕ) → (options.removes_dot_segments && nat_le (length (47 ∷ bytes)) head_limit) ≡ true
    → path_read options (47 ∷ bytes) ≡ without_dot_segments (percent_decode bytes)
path_read-without options bytes e =
    ap (λ t. if t then without_dot_segments (drop 1 (percent_decode (47 ∷ bytes))) else drop 1 (percent_decode (47 ∷ bytes))) e ∙ ap without_dot_segments (percent_decode-slash bytes)

pub name_of-path : (options : SiteOptions) (target path rest : List ℕ) → path_and_query target ≡ Some path → rest ≡ drop 1 path → name_of options target ≡ Some (name_said_by options (47 ∷ path_of rest))
name_of-path options target path rest e r =
    ap (option_map (λ bytes. name_said_by options (path_of bytes))) e
    ∙ ap (λ p. Some (name_said_by options (path_of p))) (path_and_query_begins target path e)
    ∙ ap (λ p. Some (name_said_by options p)) (path_of-slash (drop 1 path))
    ∙ ap (λ d. Some (name_said_by options (47 ∷ path_of d))) (sym r)
