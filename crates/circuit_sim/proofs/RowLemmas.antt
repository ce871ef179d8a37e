-- Rows that go through a circuit at once.
use Rattle.std.proofs.Common.{◌≡◌, ℕ, ◌+◌, ◌-◌, ◌*◌, ◌/◌, ◌%◌, ◌<◌, ◌≤◌, Bool, List, [], ◌++◌, length, length-append, length-drop, append-nil, map, get_or}
use Rattle.std.proofs.Common.{take, drop, sym, ap, ◌∙◌, subst, arith}
use Rattle.std.specs.Global.{Vec}
use Rattle.std.specs.List.{drop-map, take-map}
use Rattle.std.proofs.lemmas.List.{append_assoc, drop_all, drop_at, get_or-map, get_or_default, length-map, length-take-le, map-append, same_lists}
use Rattle.std.proofs.lemmas.List.{take-append-drop, take_all, take_at}
use Rattle.list_facts.proofs.AllLemmas.{AllByRecursion-append, AllByRecursion-drop, AllByRecursion-left, AllByRecursion-right, AllByRecursion-take}
use Rattle.mct_circuit.specs.Gates.{GateView, line_map}
use Rattle.circuit_sim.specs.Planes.{AreMapped, AreMappedInLanes}
use Rattle.circuit_sim.specs.Rows.{AreRows, contents}
use Rattle.circuit_sim.specs.inside.Loaded.{HoldRows, HoldRowsInLanes, IsFrontChanged}

-- rows each of which was changed by f
each_changed : (f : List Bool → List Bool) (before behind : List (List Bool)) → length behind ≡ length before
    → ((k : ℕ) → k < length before → get_or behind k [] ≡ f (get_or before k [])) → behind ≡ map f before
each_changed f before behind same each =
    same_lists behind (map f before) (same ∙ sym (length-map before f))
    (λ k d inside.
    let low : k < length before = omega arith in
    get_or_default behind k d [] inside ∙ each k low ∙ sym (get_or-map f before k [] d low))

length-contents : (rows : List (Vec Bool)) → length (contents rows) ≡ length rows
length-contents rows = length-map rows (λ (r : Vec Bool). r.items)

pub planes_changed : (gates : List GateView) (before behind : List (Vec Bool)) (loaded run : List ℕ) → length behind ≡ length before → length before ≤ 64
    → HoldRows (contents before) loaded → AreMapped gates loaded run → HoldRows (contents behind) run
    → contents behind ≡ map (line_map gates) (contents before)
planes_changed gates before behind loaded run same few held step kept =
    let long = length-contents before in
    let long_behind = length-contents behind in
    each_changed (line_map gates) (contents before) (contents behind) (long_behind ∙ same ∙ sym long)
    (λ k low. sym (kept.each k (omega arith)) ∙ step.each k (omega arith) ∙ ap (line_map gates) (held.each k low))

pub lanes_changed : (gates : List GateView) (before behind : List (Vec Bool)) (loaded run : List (List ℕ)) → length behind ≡ length before
    → length before ≤ 512 → HoldRowsInLanes (contents before) loaded → AreMappedInLanes gates loaded run → HoldRowsInLanes (contents behind) run
    → contents behind ≡ map (line_map gates) (contents before)
lanes_changed gates before behind loaded run same few held step kept =
    let long = length-contents before in
    let long_behind = length-contents behind in
    each_changed (line_map gates) (contents before) (contents behind) (long_behind ∙ same ∙ sym long)
    (λ k low.
    let number = k / 64 in
    let place = k % 64 in
    let lane_below : number < 8 = omega arith in
    let place_below : place < 64 = omega arith in
    let is : 64 * number + place ≡ k = omega arith in
    ap (λ (n : ℕ). get_or (contents behind) n []) (sym is)
    ∙ sym (kept.each number place place_below (rw is (omega arith)))
    ∙ (step.each number lane_below).each place place_below
    ∙ ap (line_map gates) (held.each number place place_below (rw is low) ∙ ap (λ (n : ℕ). get_or (contents before) n []) is))

-- rows in two parts, each of which was changed by f
pub parts_changed : (f : List Bool → List Bool) (rows front behind run_front run_behind : List (Vec Bool)) → rows ≡ front ++ behind
    → contents run_front ≡ map f (contents front) → contents run_behind ≡ map f (contents behind)
    → contents (run_front ++ run_behind) ≡ map f (contents rows)
parts_changed f rows front behind run_front run_behind parts one other =
    let bits = λ (r : Vec Bool). r.items in
    map-append bits run_front run_behind
    ∙ ap (λ (bs : List (List Bool)). bs ++ contents run_behind) one
    ∙ ap (λ (bs : List (List Bool)). map f (contents front) ++ bs) other
    ∙ sym (map-append f (contents front) (contents behind))
    ∙ ap (map f) (sym (map-append bits front behind) ∙ ap contents (sym parts))

-- ---- a group of rows at the front

pub front_changed : (f : List Bool → List Bool) (count : ℕ) (rows group : List (Vec Bool)) → 0 < count → count ≤ length rows
    → contents group ≡ map f (contents (take count rows)) → IsFrontChanged f count (contents rows) (contents (group ++ drop count rows))
front_changed f count rows group some few changed =
    let bits = λ (r : Vec Bool). r.items in
    record {
      some = some;
      few = rw (length-contents rows) few;
      rows = map-append bits group (drop count rows)
          ∙ ap (λ (bs : List (List Bool)). bs ++ contents (drop count rows)) (changed ∙ ap (map f) (sym (take-map bits count rows)))
          ∙ ap (λ (bs : List (List Bool)). map f (take count (contents rows)) ++ bs) (sym (drop-map bits count rows));
    }

pub front_fits : (lines count : ℕ) (rows : List (Vec Bool)) → AreRows lines rows → AreRows lines (take count rows)
front_fits lines count rows fit = AllByRecursion-take (λ (r : Vec Bool). length r.items ≡ lines) count rows fit

pub behind_fits : (lines start : ℕ) (rows : List (Vec Bool)) → AreRows lines rows → AreRows lines (drop start rows)
behind_fits lines start rows fit = AllByRecursion-drop (λ (r : Vec Bool). length r.items ≡ lines) start rows fit

pub part_fits : (lines count : ℕ) (rows front behind : List (Vec Bool)) → AreRows lines rows → rows ≡ front ++ behind → count ≡ lines
    → AreRows count front × AreRows count behind
part_fits lines count rows front behind fit parts same =
    let fits : AreRows count (front ++ behind) = subst (λ (n : ℕ). AreRows n (front ++ behind)) (sym same) (subst (AreRows lines) parts fit) in
    let one = λ (r : Vec Bool). length r.items ≡ count in
    (AllByRecursion-left one front behind fits, AllByRecursion-right one front behind fits)

pub joined_fits : (lines : ℕ) (front behind : List (Vec Bool)) → AreRows lines front → AreRows lines behind → AreRows lines (front ++ behind)
joined_fits lines front behind fit same = AllByRecursion-append (λ (r : Vec Bool). length r.items ≡ lines) front behind fit same

-- ---- one group after another

-- what is left, changed by f, makes the rows those at the start, changed by f
pub record IsPartlyChanged (f : List Bool → List Bool) (start : ℕ) (before now : List (List Bool)) : Type 0 where
  pub within : start ≤ length now
  pub rows : take start now ++ map f (drop start now) ≡ map f before

pub rows_more : (f : List Bool → List Bool) (start count : ℕ) (before now behind : List (List Bool)) → IsPartlyChanged f start before now
    → IsFrontChanged f count (drop start now) behind → IsPartlyChanged f (start + count) before (take start now ++ behind)
rows_more f start count before now behind partly front =
    let left = drop start now in
    let run = map f (take count left) in
    let done = take start now ++ run in
    let cut : take start now ++ behind ≡ done ++ drop count left =
    ap (λ (rs : List (List Bool)). take start now ++ rs) front.rows ∙ sym (append_assoc (take start now) run (drop count left)) in
    let long : length done ≡ start + count =
    length-append (take start now) run
    ∙ ap (λ (n : ℕ). n + length run) (length-take-le start now partly.within)
    ∙ ap (λ (n : ℕ). start + n) (length-map (take count left) f ∙ length-take-le count left front.few) in
    rw cut (record {
      within = omega (arith, long, length-append done (drop count left));
      rows =
          ap (λ (rs : List (List Bool)). rs ++ map f (drop (start + count) (done ++ drop count left))) (take_at done (drop count left) (start + count) long)
          ∙ ap (λ (rs : List (List Bool)). done ++ map f rs) (drop_at done (drop count left) (start + count) long)
          ∙ append_assoc (take start now) run (map f (drop count left))
          ∙ ap (λ (rs : List (List Bool)). take start now ++ rs) (sym (map-append f (take count left) (drop count left))
          ∙ ap (map f) (take-append-drop count left))
          ∙ partly.rows;
    })

-- ---- a change of all rows from a place on

pub put_behind : (start : ℕ) (rows group : List (Vec Bool)) → take start rows ++ (group ++ drop (length rows - start) (drop start rows))
    ≡ take start rows ++ group
put_behind start rows group =
    ap (λ (rs : List (Vec Bool)). take start rows ++ (group ++ rs))
    (drop_all (length rows - start) (drop start rows) (rw (length-drop start rows) (omega arith)))
    ∙ ap (λ (rs : List (Vec Bool)). take start rows ++ rs) (append-nil group)

pub contents_behind : (start : ℕ) (rows group : List (Vec Bool)) → contents (take start rows ++ group) ≡ take start (contents rows) ++ contents group
contents_behind start rows group =
    let bits = λ (r : Vec Bool). r.items in
    map-append bits (take start rows) group ∙ ap (λ (bs : List (List Bool)). bs ++ contents group) (sym (take-map bits start rows))

pub groups_more : (f : List Bool → List Bool) (start count : ℕ) (before : List (List Bool)) (rows group : List (Vec Bool))
    → IsPartlyChanged f start before (contents rows) → IsFrontChanged f count (contents (take (length rows - start) (drop start rows))) (contents group)
    → IsPartlyChanged f (start + count) before (contents (take start rows ++ (group ++ drop (length rows - start) (drop start rows))))
groups_more f start count before rows group partly front =
    let whole : take (length rows - start) (drop start rows) ≡ drop start rows =
    take_all (length rows - start) (drop start rows) (rw (length-drop start rows) (omega arith)) in
    let same = ap contents whole ∙ sym (drop-map (λ (r : Vec Bool). r.items) start rows) in
    rw (put_behind start rows group, contents_behind start rows group) (rows_more f start count before (contents rows) (contents group) partly
    (subst (λ (bs : List (List Bool)). IsFrontChanged f count bs (contents group)) same front))

pub groups_fit : (lines start : ℕ) (rows group : List (Vec Bool)) → AreRows lines rows → AreRows lines group
    → AreRows lines (take start rows ++ (group ++ drop (length rows - start) (drop start rows)))
groups_fit lines start rows group fit same =
    rw (put_behind start rows group) (joined_fits lines (take start rows) group (front_fits lines start rows fit) same)
