-- Gates on vectors of planes, a lane at a time.
use Rattle.std.proofs.Common.{◌≡◌, ◌≢◌, ℕ, ◌+◌, ◌-◌, ◌*◌, ◌^◌, ◌<◌, ◌≤◌, min, bit_and, bit_xor, Bool, true, false, List, [], ◌∷◌, ◌++◌, length, length-append}
use Rattle.std.proofs.Common.{length-drop, length-set, get_or, set, take, drop, refl, sym, ap, ◌∙◌, subst, arith, below_more}
use Rattle.std.specs.Global.{Vec}
use Rattle.std.specs.List.{take-map}
use Rattle.std.specs.Simd.Lanes.{chunk, zip2}
use Rattle.std.specs.Prelude.{replicate}
use Rattle.std.proofs.Math.Seq.{map-set_same}
use Rattle.std.proofs.lemmas.List.{get_or-append-add, get_or-map, get_or-set_other, get_or-set_same, get_or-take, get_or_append_left, length-map}
use Rattle.std.proofs.lemmas.List.{length-take-le, map-append, map-set}
use Rattle.std.proofs.lemmas.Simd.{get_or-chunk, get_or-replicate, get_or-zip2, length-chunk, length-zip2}
use Rattle.list_facts.proofs.AllLemmas.{AllByRecursion-append, AllByRecursion-at, AllByRecursion-drop, AllByRecursion-set, AllByRecursion-take}
use Rattle.mct_circuit.specs.declared.gate.Control.{Control}
use Rattle.mct_circuit.specs.declared.gate.Op.TheVariants.{Flip, Swap}
use Rattle.mct_circuit.specs.Gates.{GateView}
use Rattle.circuit_sim.specs.Planes.{AreMapped, AreMappedInLanes, AreVectors, column, lane}
use Rattle.circuit_sim.specs.Rows.{AreRows, contents}
use Rattle.circuit_sim.specs.inside.Masks.{IsMask, IsNarrowed, IsChosen, IsMaskInLanes, IsNarrowedInLanes, IsChosenInLanes}
use Rattle.circuit_sim.proofs.PlaneLemmas.{narrowed_by_one, narrowed_by_zero, chosen_first, chosen_second}
use Rattle.circuit_sim.specs.inside.Loaded.{HoldRows, IsWithLane}
use Rattle.circuit_sim.proofs.PackingLemmas.{contents-chunk, front_more}
use Rattle.circuit_sim.proofs.GateLemmas.{mask_begun, mask_more, mask_done, flip_mapped, swap_mapped, IsUnderway, gates_begun, gates_more, gates_done}

-- ---- one lane

pub lane-at : (vectors : List (List ℕ)) (line number : ℕ) → line < length vectors
    → get_or (lane number vectors) line 0 ≡ get_or (get_or vectors line []) number 0
lane-at vectors line number low = get_or-map (λ (vector : List ℕ). get_or vector number 0) vectors line [] 0 low

pub lane-set : (vectors : List (List ℕ)) (line number : ℕ) (vector : List ℕ) → lane number (set vectors line vector)
    ≡ set (lane number vectors) line (get_or vector number 0)
lane-set vectors line number vector = map-set (λ (v : List ℕ). get_or v number 0) vectors line vector

pub length-lane : (vectors : List (List ℕ)) (number : ℕ) → length (lane number vectors) ≡ length vectors
length-lane vectors number = length-map vectors (λ (vector : List ℕ). get_or vector number 0)

pub vector_at : (vectors : List (List ℕ)) (line : ℕ) → AreVectors vectors → line < length vectors → length (get_or vectors line []) ≡ 8
vector_at vectors line long low = AllByRecursion-at (λ (vector : List ℕ). length vector ≡ 8) vectors line [] long low

zip2-lane : (f : ℕ → ℕ → ℕ) (xs ys : List ℕ) (number : ℕ) → length xs ≡ 8 → length ys ≡ 8 → number < 8
    → get_or (zip2 f xs ys) number 0 ≡ f (get_or xs number 0) (get_or ys number 0)
zip2-lane f xs ys number long same low = get_or-zip2 f xs ys number 0 0 0 (omega arith) (omega arith)

zip2-long : (f : ℕ → ℕ → ℕ) (xs ys : List ℕ) → length xs ≡ 8 → length ys ≡ 8 → length (zip2 f xs ys) ≡ 8
zip2-long f xs ys long same = length-zip2 f xs ys (long ∙ sym same) ∙ long

-- ---- the steps of a gate

pub narrowed_by_ones : (mask vector : List ℕ) → length mask ≡ 8 → length vector ≡ 8 → IsNarrowedInLanes mask vector true (zip2 bit_and mask vector)
narrowed_by_ones mask vector long same = record {
  long = zip2-long bit_and mask vector long same;
  each = λ number low.
      subst (IsNarrowed (get_or mask number 0) (get_or vector number 0) true) (sym (zip2-lane bit_and mask vector number long same low))
      (narrowed_by_one (get_or mask number 0) (get_or vector number 0));
}

pub narrowed_by_zeros : (mask vector : List ℕ) → length mask ≡ 8 → length vector ≡ 8
    → IsNarrowedInLanes mask vector false (zip2 bit_and mask (zip2 bit_xor mask vector))
narrowed_by_zeros mask vector long same =
    let other = zip2 bit_xor mask vector in
    let long_other : length other ≡ 8 = zip2-long bit_xor mask vector long same in
    record {
      long = zip2-long bit_and mask other long long_other;
      each = λ number low.
          subst (IsNarrowed (get_or mask number 0) (get_or vector number 0) false) (sym (zip2-lane bit_and mask other number long long_other low
          ∙ ap (bit_and (get_or mask number 0)) (zip2-lane bit_xor mask vector number long same low)))
          (narrowed_by_zero (get_or mask number 0) (get_or vector number 0));
    }

changed-lane : (mask first second plane : List ℕ) (number : ℕ) → length mask ≡ 8 → length first ≡ 8 → length second ≡ 8 → length plane ≡ 8 → number < 8
    → get_or (zip2 bit_xor plane (zip2 bit_and (zip2 bit_xor first second) mask)) number 0
    ≡ bit_xor (get_or plane number 0) (bit_and (bit_xor (get_or first number 0) (get_or second number 0)) (get_or mask number 0))
changed-lane mask first second plane number m f s p low =
    let both = zip2 bit_xor first second in
    let long_both : length both ≡ 8 = zip2-long bit_xor first second f s in
    zip2-lane bit_xor plane (zip2 bit_and both mask) number p (zip2-long bit_and both mask long_both m) low
    ∙ ap (bit_xor (get_or plane number 0)) (zip2-lane bit_and both mask number long_both m low
    ∙ ap (λ (n : ℕ). bit_and n (get_or mask number 0)) (zip2-lane bit_xor first second number f s low))

changed-long : (mask first second plane : List ℕ) → length mask ≡ 8 → length first ≡ 8 → length second ≡ 8 → length plane ≡ 8
    → length (zip2 bit_xor plane (zip2 bit_and (zip2 bit_xor first second) mask)) ≡ 8
changed-long mask first second plane m f s p =
    zip2-long bit_xor plane (zip2 bit_and (zip2 bit_xor first second) mask) p
    (zip2-long bit_and (zip2 bit_xor first second) mask (zip2-long bit_xor first second f s) m)

-- a plane that is chosen in each lane is chosen
chosen_by : (mask first second plane there : List ℕ) → length mask ≡ 8 → length first ≡ 8 → length second ≡ 8 → length plane ≡ 8
    → ((number : ℕ) → IsChosen (get_or mask number 0) (get_or there number 0) (get_or plane number 0)
    (bit_xor (get_or plane number 0) (bit_and (bit_xor (get_or first number 0) (get_or second number 0)) (get_or mask number 0))))
    → IsChosenInLanes mask there plane (zip2 bit_xor plane (zip2 bit_and (zip2 bit_xor first second) mask))
chosen_by mask first second plane there m f s p chosen = record {
  long = changed-long mask first second plane m f s p;
  each = λ number low.
      subst (IsChosen (get_or mask number 0) (get_or there number 0) (get_or plane number 0))
      (sym (changed-lane mask first second plane number m f s p low)) (chosen number);
}

pub chosen_firsts : (mask first second : List ℕ) → (length first ≡ 8) × (length second ≡ 8) × (length mask ≡ 8)
    → IsChosenInLanes mask second first (zip2 bit_xor first (zip2 bit_and (zip2 bit_xor first second) mask))
chosen_firsts mask first second long =
    chosen_by mask first second first second long.2 long.0 long.1 long.0
    (λ number. chosen_first (get_or mask number 0) (get_or first number 0) (get_or second number 0))

pub chosen_seconds : (mask first second : List ℕ) → (length first ≡ 8) × (length second ≡ 8) × (length mask ≡ 8)
    → IsChosenInLanes mask first second (zip2 bit_xor second (zip2 bit_and (zip2 bit_xor first second) mask))
chosen_seconds mask first second long =
    chosen_by mask first second second first long.2 long.0 long.1 long.1
    (λ number. chosen_second (get_or mask number 0) (get_or first number 0) (get_or second number 0))

-- ---- the mask of the controls

pub masks_begun : (vectors : List (List ℕ)) → IsMaskInLanes vectors [] (replicate 8 (2 ^ 64 - 1))
masks_begun vectors = record {
  long = refl;
  each = λ number low.
      subst (IsMask (lane number vectors) []) (sym (get_or-replicate 8 number (2 ^ 64 - 1) 0 low)) (mask_begun (lane number vectors));
}

pub masks_more : (vectors : List (List ℕ)) (controls : List Control) (i : ℕ) (d control : Control) (mask vector narrowed : List ℕ) → i < length controls
    → control ≡ get_or controls i d → control.line < length vectors → vector ≡ get_or vectors control.line [] → IsMaskInLanes vectors (take i controls) mask
    → IsNarrowedInLanes mask vector control.positive narrowed → IsMaskInLanes vectors (take (i + 1) controls) narrowed
masks_more vectors controls i d control mask vector narrowed inside is low same masks step = record {
  long = step.long;
  each = λ number below.
      mask_more (lane number vectors) controls i d control (get_or mask number 0) (get_or vector number 0) (get_or narrowed number 0) inside is
      (rw (length-lane vectors number) low)
      (ap (λ (v : List ℕ). get_or v number 0) same ∙ sym (lane-at vectors control.line number low)) (masks.each number below) (step.each number below);
}

pub masks_done : (vectors : List (List ℕ)) (controls : List Control) (i : ℕ) (mask : List ℕ) → length controls ≤ i
    → IsMaskInLanes vectors (take i controls) mask → IsMaskInLanes vectors controls mask
masks_done vectors controls i mask over masks = record {
  long = masks.long;
  each = λ number below. mask_done (lane number vectors) controls i (get_or mask number 0) over (masks.each number below);
}

-- ---- one gate

pub flip_mapped_in_lanes : (gate : GateView) (vectors : List (List ℕ)) (target : ℕ) (mask : List ℕ) → AreVectors vectors → gate.op ≡ Flip target
    → target < length vectors → IsMaskInLanes vectors gate.controls mask
    → AreMappedInLanes (gate ∷ []) vectors (set vectors target (zip2 bit_xor (get_or vectors target []) mask))
flip_mapped_in_lanes gate vectors target mask long is low masks =
    let old = get_or vectors target [] in
    let long_old : length old ≡ 8 = vector_at vectors target long low in
    record {
      vectors =
          AllByRecursion-set (λ (vector : List ℕ). length vector ≡ 8) vectors target (zip2 bit_xor old mask) long
          (zip2-long bit_xor old mask long_old masks.long);
      each = λ number below.
          let planes = lane number vectors in
          subst (AreMapped (gate ∷ []) planes) (sym (lane-set vectors target number (zip2 bit_xor old mask)
          ∙ ap (set planes target) (zip2-lane bit_xor old mask number long_old masks.long below
          ∙ ap (λ (n : ℕ). bit_xor n (get_or mask number 0)) (sym (lane-at vectors target number low)))))
          (flip_mapped gate planes target (get_or mask number 0) is (rw (length-lane vectors number) low) (masks.each number below));
    }

pub swap_mapped_in_lanes : (gate : GateView) (vectors : List (List ℕ)) (first second : ℕ) (mask there back : List ℕ) → AreVectors vectors
    → gate.op ≡ Swap first second → first < length vectors → second < length vectors → IsMaskInLanes vectors gate.controls mask
    → IsChosenInLanes mask (get_or vectors second []) (get_or vectors first []) there
    → IsChosenInLanes mask (get_or vectors first []) (get_or vectors second []) back
    → AreMappedInLanes (gate ∷ []) vectors (set (set vectors first there) second back)
swap_mapped_in_lanes gate vectors first second mask there back long is low high masks at_first at_second = record {
  vectors =
      AllByRecursion-set (λ (vector : List ℕ). length vector ≡ 8) (set vectors first there) second back
      (AllByRecursion-set (λ (vector : List ℕ). length vector ≡ 8) vectors first there long at_first.long) at_second.long;
  each = λ number below.
      let planes = lane number vectors in
      let one = lane-at vectors first number low in
      let other = lane-at vectors second number high in
      let m = get_or mask number 0 in
      let t = get_or there number 0 in
      let b = get_or back number 0 in
      subst (AreMapped (gate ∷ []) planes) (sym (lane-set (set vectors first there) second number back
      ∙ ap (λ (ps : List ℕ). set ps second b) (lane-set vectors first number there)))
      (swap_mapped gate planes first second m t b is (rw (length-lane vectors number) low)
      (rw (length-lane vectors number) high) (masks.each number below) (rw (one, other) (at_first.each number below))
      (rw (one, other) (at_second.each number below)));
}

-- ---- gates one after another

pub record IsUnderwayInLanes (gates : List GateView) (done : ℕ) (before now : List (List ℕ)) : Type 0 where
  pub vectors : AreVectors now
  pub each : (number : ℕ) → number < 8 → IsUnderway gates done (lane number before) (lane number now)

pub lanes_begun : (gates : List GateView) (vectors : List (List ℕ)) → AreVectors vectors → IsUnderwayInLanes gates 0 vectors vectors
lanes_begun gates vectors long = record { vectors = long; each = λ number below. gates_begun gates (lane number vectors) }

pub lanes_more : (gates : List GateView) (done : ℕ) (gate : GateView) (before now next : List (List ℕ)) → done < length gates → gate ≡ get_or gates done gate
    → IsUnderwayInLanes gates done before now → AreMappedInLanes (gate ∷ []) now next → IsUnderwayInLanes gates (done + 1) before next
lanes_more gates done gate before now next inside is underway step = record {
  vectors = step.vectors;
  each = λ number below.
      gates_more gates done gate (lane number before) (lane number now) (lane number next) inside is (underway.each number below) (step.each number below);
}

pub lanes_done : (gates items : List GateView) (done : ℕ) (before now : List (List ℕ)) → items ≡ gates → length items ≤ done
    → IsUnderwayInLanes items done before now → AreMappedInLanes gates before now
lanes_done gates items done before now same over underway = record {
  vectors = underway.vectors;
  each = λ number below. gates_done gates items done (lane number before) (lane number now) same over (underway.each number below);
}

pub ruleset walking_in_lanes = (lanes_begun, lanes_more, lanes_done)

-- ---- planes onto a lane, and off it

-- the planes of the first lines stand on the lane
pub record IsPartlyWithLane (lines number : ℕ) (planes : List ℕ) (before now : List (List ℕ)) : Type 0 where
  pub vectors : AreVectors now
  pub here : take lines (lane number now) ≡ take lines planes
  pub others : (other : ℕ) → other ≢ number → lane other now ≡ lane other before

pub lane_more : (line number : ℕ) (planes : List ℕ) (before now : List (List ℕ)) (next : List ℕ) → number < 8 → line < length now → line < length planes
    → next ≡ set (get_or now line []) number (get_or planes line 0) → IsPartlyWithLane line number planes before now
    → IsPartlyWithLane (line + 1) number planes before (set now line next)
lane_more line number planes before now next low inside below is partly =
    let vector = get_or now line [] in
    let plane = get_or planes line 0 in
    rw is (let long : length vector ≡ 8 = vector_at now line partly.vectors inside in
    record {
      vectors =
          AllByRecursion-set (λ (v : List ℕ). length v ≡ 8) now line (set vector number plane) partly.vectors (length-set vector number plane ∙ long);
      here =
          ap (take (line + 1)) (lane-set now line number (set vector number plane)
          ∙ ap (set (lane number now) line) (get_or-set_same vector number plane 0 (omega arith)))
          ∙ front_more (lane number now) planes line 0 plane (rw (length-lane now number) inside) below refl partly.here;
      others = λ other apart.
          map-set_same (λ (v : List ℕ). get_or v other 0) now line (set vector number plane) [] (get_or-set_other vector number other plane 0 apart)
          ∙ partly.others other apart;
    })

pub taken_more : (vectors : List (List ℕ)) (number line : ℕ) (planes : List ℕ) (plane : ℕ) → line < length planes → line < length vectors
    → plane ≡ get_or (get_or vectors line []) number 0 → take line planes ≡ take line (lane number vectors)
    → take (line + 1) (set planes line plane) ≡ take (line + 1) (lane number vectors)
taken_more vectors number line planes plane inside low is front =
    front_more planes (lane number vectors) line 0 plane inside (rw (length-lane vectors number) low)
    (is ∙ sym (lane-at vectors line number low)) front

-- ---- rows on lanes

-- the rows of so many lanes stand on these
pub record HoldFirstInLanes (lanes : ℕ) (rows : List (List Bool)) (vectors : List (List ℕ)) : Type 0 where
  pub each : (number place : ℕ) → number < lanes → place < 64 → 64 * number + place < length rows
      → column place (lane number vectors) ≡ get_or rows (64 * number + place) []

pub loaded_more : (number : ℕ) (rows : List (Vec Bool)) (planes : List ℕ) (before next : List (List ℕ)) (size : ℕ)
    → size ≡ min (length rows) (64 * number + 64) - 64 * number → 64 * number < length rows
    → HoldRows (contents (take size (drop (64 * number) rows))) planes → IsWithLane number planes before next
    → HoldFirstInLanes number (contents rows) before → HoldFirstInLanes (number + 1) (contents rows) next
loaded_more number rows planes before next size is room group step first =
    let all = contents rows in
    let start = 64 * number in
    let same : length all ≡ length rows = length-map rows (λ (r : Vec Bool). r.items) in
    let Holds : ℕ → Type 0 = λ n. (place : ℕ) → place < 64 → 64 * n + place < length all
    → column place (lane n next) ≡ get_or all (64 * n + place) [] in
    let held : HoldRows (chunk start size all) planes =
    subst (λ (rs : List (List Bool)). HoldRows rs planes) (contents-chunk rows start size) group in
    let long : length (chunk start size all) ≡ size = length-chunk start size all (omega (arith, same)) in
    let every = below_more Holds number
    (λ n below place low inside. ap (column place) (step.others n (λ e. absurd (omega arith))) ∙ first.each n place below low inside)
    (λ place low inside.
    let short : place < size = omega (arith, same) in
    ap (column place) step.here ∙ held.each place (rw long short) ∙ get_or-chunk start size all place [] short) in
    record { each = λ n place below low inside. every n below place low inside }

pub stored_lane_more : (number : ℕ) (rows group : List (Vec Bool)) (planes : List ℕ) (vectors : List (List ℕ)) (size : ℕ)
    → size ≡ min (length rows) (64 * number + 64) - 64 * number → 64 * number < length rows → length group ≡ size → planes ≡ lane number vectors
    → HoldRows (contents group) planes → HoldFirstInLanes number (contents rows) vectors
    → HoldFirstInLanes (number + 1) (contents (take (64 * number) rows ++ (group ++ drop size (drop (64 * number) rows)))) vectors
stored_lane_more number rows group planes vectors size count room long is held first =
    let bits = λ (r : Vec Bool). r.items in
    let start = 64 * number in
    let rest = drop size (drop start rows) in
    let all = contents (take start rows ++ (group ++ rest)) in
    let front = take start (contents rows) in
    let same : length (contents rows) ≡ length rows = length-map rows bits in
    let long_front : length front ≡ start = length-take-le start (contents rows) (omega (arith, same)) in
    let long_group : length (contents group) ≡ size = length-map group bits ∙ long in
    let long_rest : length (contents rest) ≡ length rows - start - size =
    length-map rest bits ∙ length-drop size (drop start rows) ∙ ap (λ n. n - size) (length-drop start rows) in
    let parts : all ≡ front ++ (contents group ++ contents rest) =
    map-append bits (take start rows) (group ++ rest)
    ∙ ap (λ (bs : List (List Bool)). bs ++ contents (group ++ rest)) (sym (take-map bits start rows))
    ∙ ap (λ (bs : List (List Bool)). front ++ bs) (map-append bits group rest) in
    let long_all : length all ≡ length rows =
    ap length parts
    ∙ omega (
      arith,
      long_front,
      long_group,
      long_rest,
      length-append front (contents group ++ contents rest),
      length-append (contents group) (contents rest),
    ) in
    let Holds : ℕ → Type 0 = λ n. (place : ℕ) → place < 64 → 64 * n + place < length all
    → column place (lane n vectors) ≡ get_or all (64 * n + place) [] in
    let before = λ (n : ℕ) (below : n < number) (place : ℕ) (low : place < 64) (inside : 64 * n + place < length all).
    first.each n place below low (omega (arith, same))
    ∙ sym (ap (λ (bs : List (List Bool)). get_or bs (64 * n + place) []) parts
    ∙ get_or_append_left front (contents group ++ contents rest) [] (64 * n + place) (omega (arith, long_front))
    ∙ get_or-take start (contents rows) (64 * n + place) [] (omega arith)) in
    let here = λ (place : ℕ) (low : place < 64) (inside : 64 * number + place < length all).
    let short : place < length (contents group) = omega (arith, long_group, long_all) in
    ap (column place) (sym is)
    ∙ held.each place short
    ∙ sym (ap (λ (bs : List (List Bool)). get_or bs (start + place) []) parts
    ∙ ap (λ (n : ℕ). get_or (front ++ (contents group ++ contents rest)) (n + place) []) (sym long_front)
    ∙ get_or-append-add front (contents group ++ contents rest) place []
    ∙ get_or_append_left (contents group) (contents rest) [] place short) in
    let every = below_more Holds number before here in
    record { each = λ n place below low inside. every n below place low inside }

pub stored_fits : (lines start size : ℕ) (rows group : List (Vec Bool)) → AreRows lines rows → AreRows lines group
    → AreRows lines (take start rows ++ (group ++ drop size (drop start rows)))
stored_fits lines start size rows group fit same =
    let Fits = λ (r : Vec Bool). length r.items ≡ lines in
    let behind = drop size (drop start rows) in
    let rest : AreRows lines behind = AllByRecursion-drop Fits size (drop start rows) (AllByRecursion-drop Fits start rows fit) in
    AllByRecursion-append Fits (take start rows) (group ++ behind) (AllByRecursion-take Fits start rows fit)
    (AllByRecursion-append Fits group behind same rest)
